-- Laws of `specs/Digits.antt`, in every base: a number's digits one by one, what a text spells, and that each undoes the other. Assumes
-- nothing.
use mathlib.Core.Bool.{Bool, true, false, and-eq-true_iff, true≢false}
use mathlib.Core.List.{List, [], ◌∷◌, ◌++◌, append-nil}
use mathlib.Core.Option.{Option, none, some, none-ne-some, some-injective}
use mathlib.Core.Path.{◌≡◌, refl, sym, ap, ◌∙◌}
use mathlib.Mathlib.Data.Bool.Basic.{eq-false_of_not-eq-true}
use Prim.Native.Nat.{ℕ, zero, suc, ◌+◌, ◌-◌, ◌*◌, ◌/◌, ◌%◌, ◌≤◌, ◌<◌, ◌^◌}
use native.Mathlib.Decide.{dec_lt, ℕ_discrete}
use native.Mathlib.Nat.{pow-zero, pow-suc, one-mul, mod-lt, div-add-mod', div-le_self, div-lt_self, div-eq_of_lt, mod-eq_of_lt, zero-div, le-div_iff_mul-le, div-lt_iff_lt-mul, mul-add-div_right, mul-add-mod_self_right, mul-le-mul_right}
use native.Mathlib.Numerals.{add-one}
use native.Mathlib.Omega.{arith}
use borrow.Author.Tests.{lt-ltb, le-ltb, le-leb, ne_eqb, ltb-true, leb-true}
use lib.Dec.{ltb, leb, eqb}
use lib.ListN.{length, get_or, drop, replicate, length-append, drop_of_length-le, get_or-append}
use lib.Seq.{append_snoc, drop-cons}
use Rattle.protocol.specs.Bytes.{pick, has}
use Rattle.protocol.specs.Digits.{digits_by, digits, is_digit, spelled}
use Rattle.protocol.proofs.Bytes.{has-append}

-- ---- the digits of a number

module _ (base : ℕ) (two : 2 ≤ base) where
  -- a number's part is smaller, and no more than the number
  part-below : (f n : ℕ) → n ≤ suc f → n / base ≤ f
  part-below f zero h = rw (zero-div base) (omega arith)
  part-below f (suc n) h = omega (arith, div-lt_self {n = suc n} {k = base} (omega arith) (omega arith))

  -- more than enough fuel alters nothing
  digits-fuel : (f g n : ℕ) → n ≤ f → n ≤ g → digits_by base f n ≡ digits_by base g n
  digits-fuel zero zero n h k = refl
  digits-fuel zero (suc g) n h k = let s : n < base = omega arith in rw (lt-ltb n base s)
  digits-fuel (suc f) zero n h k = let s : n < base = omega arith in rw (lt-ltb n base s)
  digits-fuel (suc f) (suc g) n h k = rw (digits-fuel f g (n / base) (part-below f n h) (part-below g n k))

  -- a number below the base is one digit, and any other has one digit more than its part
  pub digits-small : (n : ℕ) → n < base → digits base n ≡ (48 + n) ∷ []
  unfolding digits
  digits-small n h = digits-fuel n (suc n) n (omega arith) (omega arith) ∙ rw (lt-ltb n base h)

  pub digits_step : (n : ℕ) → base ≤ n → digits base n ≡ digits base (n / base) ++ (48 + n % base) ∷ []
  unfolding digits
  digits_step n h =
      digits-fuel n (suc n) n (omega arith) (omega arith)
      ∙ rw (le-ltb n base h) (ap (λ (s : List ℕ). s ++ (48 + n % base) ∷ []) (digits-fuel n (n / base) (n / base) (div-le_self n base) (omega arith)))

  -- what holds of the digits, and of a number when it holds of its part, holds of every number
  induct_below : (P : ℕ → Type 0) → ((n : ℕ) → n < base → P n) → ((n : ℕ) → base ≤ n → P (n / base) → P n) → (f n : ℕ) → n ≤ f → P n
  induct_below P small step zero n h = small n (omega arith)
  induct_below P small step (suc f) n h = go (induct_below P small step f (n / base) (part-below f n h)) (dec_lt n base)
    where
      go : P (n / base) → Dec (n < base) → P n
      go rest (yes s) = small n s
      go rest (no l) = step n (omega arith) rest

  pub digits-induct : (P : ℕ → Type 0) → ((n : ℕ) → n < base → P n) → ((n : ℕ) → base ≤ n → P (n / base) → P n) → (n : ℕ) → P n
  digits-induct P small step n = induct_below P small step n n (omega arith)

  -- how many digits: one below the base, else one more than the part has; so at least one, and at most k below base ^ k
  pub length-small : (n : ℕ) → n < base → length (digits base n) ≡ 1
  length-small n h = rw (digits-small n h)

  pub length-step : (n : ℕ) → base ≤ n → length (digits base n) ≡ length (digits base (n / base)) + 1
  length-step n h = rw (digits_step n h, length-append)

  pub digits-nonempty : (n : ℕ) → 0 < length (digits base n)
  digits-nonempty =
      digits-induct (λ n. 0 < length (digits base n))
      (λ n h. omega (arith, length-small n h))
      (λ n h r. omega (arith, length-step n h))

  pub digits-width : (k n : ℕ) → n < base ^ suc k → length (digits base n) ≤ suc k
  digits-width zero n h = omega (arith, length-small n (rw (pow-suc base 0, pow-zero base, one-mul base) at h))
  digits-width (suc k) n h = go (digits-width k (n / base) ((div-lt_iff_lt-mul {k = base} {x = n} {y = base ^ suc k} (omega arith)).1 (rw (pow-suc base (suc k)) at h))) (dec_lt n base)
    where
      go : length (digits base (n / base)) ≤ suc k → Dec (n < base) → length (digits base n) ≤ suc (suc k)
      go rest (yes s) = omega (arith, length-small n s)
      go rest (no l) = omega (arith, length-step n (omega arith))

-- ---- the bytes of digits

module _ (base b : ℕ) where
  digit_range : is_digit base b ≡ true → (48 ≤ b) × (b < 48 + base)
  digit_range e =
      let (low, high) = (and-eq-true_iff (leb 48 b) (ltb b (48 + base))).0 e in
      (leb-true 48 b low, ltb-true b (48 + base) high)

  digit_in : 48 ≤ b → b < 48 + base → is_digit base b ≡ true
  digit_in h k = rw (le-leb 48 b h, lt-ltb b (48 + base) k)

  digit_out : (48 ≤ b → b < 48 + base → ⊥) → is_digit base b ≡ false
  digit_out f = eq-false_of_not-eq-true (λ e. let (low, high) = digit_range e in f low high)

-- a byte that is no digit's stands in no number
pub digits-has_not : (base : ℕ) → 2 ≤ base → (b n : ℕ) → is_digit base b ≡ false → has b (digits base n) ≡ false
digits-has_not base two b n e =
    digits-induct base two (λ n. has b (digits base n) ≡ false)
    (λ n h. rw (digits-small base two n h, other n h))
    (λ n h r. rw (digits_step base two n h, has-append, r, other (n % base) (mod-lt n (omega arith))))
    n
  where
    other : (d : ℕ) → d < base → eqb (48 + d) b ≡ false
    other d h = ne_eqb (48 + d) b (λ q. true≢false (sym (rw q at (digit_in base (48 + d) (omega arith) (omega arith))) ∙ e))

-- ---- what a text spells

module _ (base : ℕ) where
  -- a digit read: the number grows by it, where it stays in 32 bits
  spelled-in : (n b : ℕ) (t : List ℕ) → is_digit base b ≡ true → n * base + (b - 48) < 0x1_0000_0000
      → spelled base n (b ∷ t) ≡ spelled base (n * base + (b - 48)) t
  spelled-in n b t d l = rw (d, lt-ltb _ _ l)

  -- ... and only so
  pick_some : (q : Bool) (o : Option ℕ) (k : ℕ) → pick q o none ≡ some k → (q ≡ true) × (o ≡ some k)
  pick_some true o k e = (refl, e)
  pick_some false o k e = absurd (none-ne-some k e)

  spelled-was : (n b : ℕ) (t : List ℕ) (k : ℕ) → spelled base n (b ∷ t) ≡ some k
      → (is_digit base b ≡ true) × (n * base + (b - 48) < 0x1_0000_0000) × (spelled base (n * base + (b - 48)) t ≡ some k)
  spelled-was n b t k e =
      let (d, f) = pick_some (is_digit base b) _ k e in
      let (l, r) = pick_some (ltb (n * base + (b - 48)) 0x1_0000_0000) _ k f in
      (d, ltb-true _ _ l, r)

  -- a text read behind another
  spelled-append : (s t : List ℕ) (m k : ℕ) → spelled base m s ≡ some k → spelled base m (s ++ t) ≡ spelled base k t
  spelled-append [] t m k e = cc
  spelled-append (b ∷ s) t m k e =
      let (d, l, r) = spelled-was m b s k e in
      spelled-in m b (s ++ t) d l ∙ spelled-append s t (m * base + (b - 48)) k r

  -- the byte at i of a text whose bytes before it spell n: a digit, another byte, a digit too many; and the end
  module _ (s : List ℕ) (n i : ℕ) (inside : i < length s) where
    pub spelled-next : 48 ≤ get_or s i 0 → get_or s i 0 < 48 + base → n * base + (get_or s i 0 - 48) < 0x1_0000_0000
        → spelled base n (drop i s) ≡ spelled base (n * base + (get_or s i 0 - 48)) (drop (i + 1) s)
    spelled-next low high fits = rw (drop-cons s i 0 inside, add-one) (spelled-in n (get_or s i 0) (drop (suc i) s) (digit_in base _ low high) fits)

    pub spelled-other : (48 ≤ get_or s i 0 → get_or s i 0 < 48 + base → ⊥) → spelled base n (drop i s) ≡ none
    spelled-other f = rw (drop-cons s i 0 inside, digit_out base _ f)

    pub spelled-past : 0x1_0000_0000 ≤ n * base + (get_or s i 0 - 48) → spelled base n (drop i s) ≡ none
    spelled-past l = rw (drop-cons s i 0 inside, le-ltb _ _ l) (go (is_digit base (get_or s i 0)))
      where
        go : (q : Bool) → pick {A = Option ℕ} q none none ≡ none
        go true = refl
        go false = refl

  pub spelled-end : (s : List ℕ) (n i : ℕ) → length s ≤ i → spelled base n (drop i s) ≡ some n
  spelled-end s n i h = rw (drop_of_length-le s h)

-- ---- what was written is read back

module _ (base : ℕ) (two : 2 ≤ base) where
  pub spelled-digits : (n : ℕ) → n < 0x1_0000_0000 → spelled base 0 (digits base n) ≡ some n
  spelled-digits =
      digits-induct base two (λ n. n < 0x1_0000_0000 → spelled base 0 (digits base n) ≡ some n)
      (λ n h l. rw (digits-small base two n h) (last 0 n n h (omega arith) l))
      (λ n h r l.
      rw (digits_step base two n h)
      (spelled-append base (digits base (n / base)) _ 0 (n / base) (r (omega (arith, div-le_self n base)))
      ∙ last (n / base) (n % base) n (mod-lt n (omega arith)) (div-add-mod' n base) l))
    where
      last : (m d n : ℕ) → d < base → m * base + d ≡ n → n < 0x1_0000_0000 → spelled base m ((48 + d) ∷ []) ≡ some n
      last m d n h q l =
          let v : m * base + (48 + d - 48) ≡ n = omega arith in
          spelled-in base m (48 + d) [] (digit_in base (48 + d) (omega arith) (omega arith)) (omega arith) ∙ ap some v

  -- ... behind any zeros
  pub zeros-spelled : (z n : ℕ) → n < 0x1_0000_0000 → spelled base 0 (replicate z 48 ++ digits base n) ≡ some n
  zeros-spelled zero n l = spelled-digits n l
  zeros-spelled (suc z) n l =
      let none_yet : 0 * base + (48 - 48) ≡ 0 = omega arith in
      spelled-in base 0 48 (replicate z 48 ++ digits base n) (digit_in base 48 (omega arith) (omega arith)) (omega arith) ∙ rw none_yet (zeros-spelled z n l)

  -- the leading digit of a number that is not 0 is not 0
  pub digits-first : (n : ℕ) → 0 < n → 48 < get_or (digits base n) 0 0
  digits-first =
      digits-induct base two (λ n. 0 < n → 48 < get_or (digits base n) 0 0)
      (λ n h p. rw (digits-small base two n h) (omega arith))
      (λ n h r p.
      rw (digits_step base two n h, get_or-append (digits base (n / base)) _ 0 0 (digits-nonempty base two (n / base)))
      (r ((le-div_iff_mul-le {k = base} {x = 1} {y = n} (omega arith)).1 (omega arith))))

  -- ---- what is read was written

  -- the digits of a number behind which another digit is read
  digits_last : (m b : ℕ) → 0 < m → 48 ≤ b → b < 48 + base → digits base (m * base + (b - 48)) ≡ digits base m ++ b ∷ []
  digits_last m b p h k =
      let part : (m * base + (b - 48)) / base ≡ m = omega (arith, mul-add-div_right {m = base} (omega arith) m (b - 48), div-eq_of_lt {n = b - 48} {m = base} (omega arith)) in
      let ones : 48 + (m * base + (b - 48)) % base ≡ b = omega (arith, mul-add-mod_self_right m base (b - 48), mod-eq_of_lt {n = b - 48} {m = base} (omega arith)) in
      rw (digits_step base two (m * base + (b - 48)) (omega (arith, mul-le-mul_right {m = 1} {n = m} base p)), part, ones)

  -- what a text goes on to spell has the digits read so far and then the text
  spelled-was_digits : (t : List ℕ) (m k : ℕ) → (0 < length t → 0 < m) → m < 0x1_0000_0000 → spelled base m t ≡ some k
      → (digits base m ++ t ≡ digits base k) × (k < 0x1_0000_0000)
  spelled-was_digits [] m k p l e =
      let q : m ≡ k = some-injective m k e in
      (append-nil (digits base m) ∙ ap (digits base) q, omega arith)
  spelled-was_digits (b ∷ t) m k p l e =
      let (d, l, r) = spelled-was base m b t k e in
      let (low, high) = digit_range base b d in
      let n : 0 < m = p (omega arith) in
      let (whole, fits) = spelled-was_digits t (m * base + (b - 48)) k (λ h. omega (arith, mul-le-mul_right {m = 1} {n = m} base n)) l r in
      (sym (append_snoc (digits base m) b t) ∙ ap (λ (s : List ℕ). s ++ t) (sym (digits_last m b n low high)) ∙ whole, fits)

  pub first-digit : (b : ℕ) (t : List ℕ) (n : ℕ) → (0 < length t → b ≡ 48 → ⊥) → spelled base 0 (b ∷ t) ≡ some n → (b ∷ t ≡ digits base n) × (n < 0x1_0000_0000)
  first-digit b t n f e =
      let (d, l, r) = spelled-was base 0 b t n e in
      let (low, high) = digit_range base b d in
      let (whole, fits) = spelled-was_digits t (0 * base + (b - 48)) n (λ h. let g = f h in omega arith) l r in
      let one : 48 + (0 * base + (b - 48)) ≡ b = omega arith in
      (ap (λ (x : ℕ). x ∷ t) (sym one) ∙ ap (λ (s : List ℕ). s ++ t) (sym (digits-small base two (0 * base + (b - 48)) (omega arith))) ∙ whole, fits)

  -- ... where it begins with zeros too
  pub spelled-zeros : (t : List ℕ) (n : ℕ) → 0 < length t → spelled base 0 t ≡ some n → (z : ℕ) × (t ≡ replicate z 48 ++ digits base n) × (n < 0x1_0000_0000)
  spelled-zeros [] n h e = absurd (omega arith)
  spelled-zeros (b ∷ []) n h e = let (w, l) = first-digit b [] n (λ i. absurd (omega arith)) e in (0, w, l)
  spelled-zeros (b ∷ c ∷ t) n h e = go (λ f. spelled-zeros (c ∷ t) n (omega arith) f) (ℕ_discrete b 48)
    where
      behind : b ≡ 48 → spelled base 0 (c ∷ t) ≡ some n
      behind q =
          let (d, l, r) = spelled-was base 0 b (c ∷ t) n e in
          let none_yet : 0 * base + (b - 48) ≡ 0 = omega arith in
          rw none_yet at r

      go : (spelled base 0 (c ∷ t) ≡ some n → (z : ℕ) × (c ∷ t ≡ replicate z 48 ++ digits base n) × (n < 0x1_0000_0000)) → Dec (b ≡ 48)
          → (z : ℕ) × (b ∷ c ∷ t ≡ replicate z 48 ++ digits base n) × (n < 0x1_0000_0000)
      go rest (yes q) =
          let (z, e, l) = rest (behind q) in
          (suc z, ap (λ (x : ℕ). x ∷ c ∷ t) q ∙ ap (λ (s : List ℕ). 48 ∷ s) e, l)
      go rest (no f) = let (w, l) = first-digit b (c ∷ t) n (λ i. f) e in (0, w, l)
