-- Laws of `specs/Bytes.antt`: numbers as bytes, lists compared, bytes put over others. Assumes nothing.
use mathlib.Core.Bool.{Bool, true, false}
use mathlib.Core.List.{List, [], ◌∷◌, ◌++◌, append_assoc, append-nil}
use mathlib.Core.Path.{◌≡◌, refl, sym, ap, ◌∙◌}
use Prim.Native.Nat.{ℕ, zero, suc, ◌+◌, ◌-◌, ◌*◌, ◌≤◌, ◌<◌, ◌/◌, ◌%◌, ◌^◌}
use native.Mathlib.Decide.{dec_le, ℕ_discrete}
use native.Mathlib.Nat.{add-zero, zero-add, suc-add, add_assoc, mul_comm, div-one, div-div-eq-div-mul, lt_of_not-le, pow-suc, one-le-pow}
use native.Mathlib.Omega.{arith}
use borrow.Author.Tests.{le-leb, lt-leb, eq-eqb, ne_eqb}
use lib.Arith.{mod-mul, digits_div, digits_mod}
use lib.Dec.{eqb}
use lib.ListN.{length, take, drop, get_or, set, length-append, length-drop, drop_of_length-le, take-append-drop}
use lib.Seq.{drop-cons, sets-eq, paste, take-length, length-take-le, take_all, take_at, take-append_seam, drop_at, drop-append-add, drop-drop}
use Rattle.protocol.specs.Bytes.{pick, Bytes, same, has, le, bytes_of, whole, over, put, put_length}

-- lists compared
pub same_refl : (s : List ℕ) → same s s ≡ true
same_refl [] = refl
same_refl (x ∷ xs) = rw (eq-eqb x x refl, same_refl xs)

pub same-eq : (s t : List ℕ) → same s t ≡ true → s ≡ t
same-eq [] [] e = refl
same-eq [] (y ∷ ys) e = cc
same-eq (x ∷ xs) [] e = cc
same-eq (x ∷ xs) (y ∷ ys) e = go (same-eq xs ys) (ℕ_discrete x y)
  where
    go : (same xs ys ≡ true → xs ≡ ys) → Dec (x ≡ y) → x ∷ xs ≡ y ∷ ys
    go rest (yes h) = let r = rest (rw (eq-eqb x y h) at e) in cc
    go rest (no f) = let z : false ≡ true = rw (ne_eqb x y f) at e in cc

-- what stands in a list
pub has-append : (b : ℕ) (s t : List ℕ) → has b (s ++ t) ≡ pick (has b s) true (has b t)
has-append b [] t = refl
has-append b (x ∷ s) t = go (has-append b s t) (eqb x b)
  where
    go : has b (s ++ t) ≡ pick (has b s) true (has b t)
        → (q : Bool) → pick q true (has b (s ++ t)) ≡ pick (pick q true (has b s)) true (has b t)
    go rest true = refl
    go rest false = rest

pub has-at : (b : ℕ) (s t : List ℕ) → has b (s ++ b ∷ t) ≡ true
has-at b s t = rw (has-append b s (b ∷ t), eq-eqb b b refl) (go (has b s))
  where
    go : (q : Bool) → pick q true true ≡ true
    go true = refl
    go false = refl

-- bytes of a list's parts
pub bytes-head : (x : ℕ) (s : List ℕ) → Bytes (x ∷ s) → x < 256
bytes-head x s b = b 0

pub bytes-tail : (x : ℕ) (s : List ℕ) → Bytes (x ∷ s) → Bytes s
bytes-tail x s b i = b (suc i)

pub bytes_drop : (n : ℕ) (s : List ℕ) → Bytes s → Bytes (drop n s)
bytes_drop zero s b = b
bytes_drop (suc n) [] b = b
bytes_drop (suc n) (x ∷ s) b = bytes_drop n s (bytes-tail x s b)

-- a number's bytes: how many, and what they spell
pub length-bytes_of : (k x : ℕ) → length (bytes_of k x) ≡ k
length-bytes_of zero x = refl
length-bytes_of (suc k) x = ap suc (length-bytes_of k (x / 256))

-- the bytes that spell a number are the number's
pub bytes_of-le : (s : List ℕ) → Bytes s → bytes_of (length s) (le s) ≡ s
bytes_of-le [] b = refl
bytes_of-le (x ∷ s) b =
    let h = bytes-head x s b in
    let m : (x + 256 * le s) % 256 ≡ x = omega arith in
    let q : (x + 256 * le s) / 256 ≡ le s = omega arith in
    rw (m, q, bytes_of-le s (bytes-tail x s b))

-- ... and a number of k bytes is what they spell
pub le-bytes_of : (k x : ℕ) → x < 256 ^ k → le (bytes_of k x) ≡ x
le-bytes_of zero x h = omega arith
le-bytes_of (suc k) x h =
    let r = le-bytes_of k (x / 256) (omega (arith, pow-suc 256 k)) in
    omega (arith, r)

-- the bytes of a number are those of its j low ones, then those of the rest
pub bytes_of-add : (j k x : ℕ) → bytes_of (j + k) x ≡ bytes_of j (x % 256 ^ j) ++ bytes_of k (x / 256 ^ j)
bytes_of-add zero k x = rw (zero-add, div-one)
bytes_of-add (suc j) k x =
    let m = mod-mul x {m = 256 ^ j} {c = 256} (one-le-pow j 256 (omega arith)) (omega arith) in
    let r : x % 256 < 256 = omega arith in
    rw (
      suc-add,
      pow-suc,
      m,
      digits_mod (x / 256 % 256 ^ j) r,
      digits_div (x / 256 % 256 ^ j) r,
      mul_comm (256 ^ j) 256,
      ← div-div-eq-div-mul x 256 (256 ^ j),
      bytes_of-add j k (x / 256),
    )

-- one byte more of a number: i is a numeral, so that i + 1 computes
pub le_step : (k : ℕ) (s : List ℕ) (off i : ℕ) → off + i < length s
    → le (take (suc k) (drop (off + i) s)) ≡ get_or s (off + i) 0 + 256 * le (take k (drop (off + (i + 1)) s))
le_step k s off i h =
    let e : suc (off + i) ≡ off + (i + 1) = omega arith in
    rw (drop-cons s (off + i) 0 h, e)

-- four bytes that are there, one by one
pub le4 : (s : List ℕ) (off : ℕ) → off + 4 ≤ length s
    → le (take 4 (drop off s)) ≡ get_or s off 0 + 256 * (get_or s (off + 1) 0 + 256 * (get_or s (off + 2) 0 + 256 * get_or s (off + 3) 0))
le4 s off fits =
    omega (
      arith,
      rw add-zero at (le_step 3 s off 0 (omega arith)),
      le_step 2 s off 1 (omega arith),
      le_step 1 s off 2 (omega arith),
      le_step 0 s off 3 (omega arith),
    )

-- four stores of straight-line code are one `over`
pub stores4 : (l : List ℕ) (off x : ℕ) → off + 4 ≤ length l
    → set (set (set (set l off (x % 256)) (off + 1) (x / 256 % 256)) (off + 2) (x / 256 / 256 % 256)) (off + 3) (x / 256 / 256 / 256 % 256)
    ≡ over l off (bytes_of 4 x)
unfolding over
stores4 l off x h =
    let e1 : off + 1 ≡ suc off = omega arith in
    let e2 : off + 2 ≡ suc (suc off) = omega arith in
    let e3 : off + 3 ≡ suc (suc (suc off)) = omega arith in
    rw (e1, e2, e3) (sets-eq (bytes_of 4 x) l off h)

-- a whole copy is an `over`
pub paste-over : (b : List ℕ) (off : ℕ) (m : List ℕ) → paste b off m (length m) ≡ over b off m
unfolding over
paste-over b off m = rw (take-length m)

-- nothing put over a list
pub over_none : (b : List ℕ) (at : ℕ) → over b at [] ≡ b
unfolding over
over_none b at = rw (append-nil, add-zero) (take-append-drop at b)

module _ (b : List ℕ) (at : ℕ) (m : List ℕ) (fits : at + length m ≤ length b) where
  over-front : length (take at b ++ m) ≡ at + length m
  over-front = simp (length-append, length-take-le at b (omega arith))

  pub over-length : length (over b at m) ≡ length b
  unfolding over
  over-length = simp (length-append (take at b ++ m), over-front, length-drop) (omega arith)

  -- what is put behind what was put is put with it
  pub over-over : (n : List ℕ) → over (over b at m) (at + length m) n ≡ over b at (m ++ n)
  unfolding over
  over-over n =
      let p : List ℕ = take at b ++ m in
      let k : ℕ = at + length m in
      let e : k + length n ≡ length p + length n = ap (λ (j : ℕ). j + length n) (sym over-front) in
      ap (λ (l : List ℕ). l ++ n ++ drop (k + length n) (p ++ drop k b)) (take_at p (drop k b) k over-front)
      ∙ ap (λ (l : List ℕ). p ++ n ++ l) (ap (λ (j : ℕ). drop j (p ++ drop k b)) e ∙ drop-append-add p (drop k b) (length n) ∙ drop-drop (length n) k b)
      ∙ ap (λ (l : List ℕ). l ++ drop (k + length n) b) (append_assoc (take at b) m n)
      ∙ ap (λ (j : ℕ). take at b ++ (m ++ n) ++ drop j b) (add_assoc at (length m) (length n) ∙ ap (λ (j : ℕ). at + j) (sym (length-append m n)))

  -- what is put alters nothing before it, and is read back there
  pub over-before : take at (over b at m) ≡ take at b
  unfolding over
  over-before = rw append_assoc (take_at (take at b) (m ++ drop (at + length m) b) at (length-take-le at b (omega arith)))

  pub over-there : take (length m) (drop at (over b at m)) ≡ m
  unfolding over
  over-there =
      rw (append_assoc, drop_at (take at b) (m ++ drop (at + length m) b) at (length-take-le at b (omega arith))) (take-append_seam m (drop (at + length m) b))

  -- the two cases of `put` and `put_length`
  pub put_in : put b at m ≡ over b at m
  unfolding put
  put_in = simp (le-leb _ _ fits)

  pub put_length-in : put_length b at m ≡ length m
  unfolding put_length
  put_length-in = simp (le-leb _ _ fits)

module _ (b : List ℕ) (at : ℕ) (m : List ℕ) (short : length b < at + length m) where
  pub put-out : put b at m ≡ b
  unfolding put
  put-out = simp (lt-leb _ _ short)

  pub put_length-out : put_length b at m ≡ 0
  unfolding put_length
  put_length-out = simp (lt-leb _ _ short)

-- `put` never alters a length
pub put-length : (b : List ℕ) (at : ℕ) (m : List ℕ) → length (put b at m) ≡ length b
put-length b at m = go (dec_le (at + length m) (length b))
  where
    go : Dec (at + length m ≤ length b) → length (put b at m) ≡ length b
    go (yes h) = rw (put_in b at m h) (over-length b at m h)
    go (no f) = rw (put-out b at m (lt_of_not-le f))

-- what is put behind what was put is put with it
pub put-put : (b : List ℕ) (at next : ℕ) (m n : List ℕ) → at + length m ≡ next → next + length n ≤ length b
    → put (put b at m) next n ≡ put b at (m ++ n)
put-put b at next m n e h =
    let l = over-length b at m (omega arith) in
    rw (put_in b at m (omega arith), put_in (over b at m) next n (omega arith), put_in b at (m ++ n) (omega (arith, length-append m n)), ← e)
    (over-over b at m (omega arith) n)

-- the end of a buffer from t on, lent and come back
module _ (b : List ℕ) (t : ℕ) (within : t ≤ length b) where
  pub end_whole : take (length b - t) (drop t b) ≡ drop t b
  end_whole = take_all (length b - t) (drop t b) (omega (arith, length-drop t b))

  end-past : drop (length b - t) (drop t b) ≡ []
  end-past = drop_of_length-le (drop t b) {i = length b - t} (omega (arith, length-drop t b))

  pub end_back : (e : List ℕ) → take t b ++ (e ++ drop (length b - t) (drop t b)) ≡ take t b ++ e
  end_back e = rw (end-past, append-nil)

  end-over : (m : List ℕ) → take t b ++ over (drop t b) 0 m ≡ over b t m
  unfolding over
  end-over m = rw (zero-add, drop-drop) (sym (append_assoc (take t b) m (drop (t + length m) b)))

  pub end-put : (m : List ℕ) → take t b ++ put (drop t b) 0 m ≡ put b t m
  end-put m = go (dec_le (t + length m) (length b))
    where
      go : Dec (t + length m ≤ length b) → take t b ++ put (drop t b) 0 m ≡ put b t m
      go (yes h) = rw (put_in b t m h, put_in (drop t b) 0 m (omega (arith, length-drop t b))) (end-over m)
      go (no f) =
          let h = lt_of_not-le f in
          rw (put-out b t m h, put-out (drop t b) 0 m (omega (arith, length-drop t b))) (take-append-drop t b)

  pub end-put_length : (m : List ℕ) → put_length (drop t b) 0 m ≡ put_length b t m
  end-put_length m = go (dec_le (t + length m) (length b))
    where
      go : Dec (t + length m ≤ length b) → put_length (drop t b) 0 m ≡ put_length b t m
      go (yes h) = put_length-in (drop t b) 0 m (omega (arith, length-drop t b)) ∙ sym (put_length-in b t m h)
      go (no f) =
          let h = lt_of_not-le f in
          put_length-out (drop t b) 0 m (omega (arith, length-drop t b)) ∙ sym (put_length-out b t m h)

-- the two cases of `whole`
pub whole_in : {A : Type 0} (n : ℕ) (z : A) (f : List ℕ → A) (s : List ℕ) (off : ℕ) → off + n ≤ length s → whole n z f s off ≡ f (drop off s)
whole_in n z f s off h = simp (le-leb _ _ h)

pub whole_out : {A : Type 0} (n : ℕ) (z : A) (f : List ℕ → A) (s : List ℕ) (off : ℕ) → length s < off + n → whole n z f s off ≡ z
whole_out n z f s off h = simp (lt-leb _ _ h)
