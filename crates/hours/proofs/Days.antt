-- The days' numbers in their bytes, and the day of a moment among them. Assumes nothing.
use Prim.Native.Nat.{ℕ, zero, suc, ◌+◌, ◌*◌, ◌/◌, ◌%◌, ◌≤◌, ◌<◌}
use mathlib.Core.Bool.{Bool, true, false, ◌&&◌, ◌||◌, and-false}
use mathlib.Core.List.{List, [], ◌∷◌}
use mathlib.Core.Path.{◌≡◌, refl, sym, ap, ap₂, ◌∙◌}
use native.Mathlib.Numerals.{add-one}
use native.Mathlib.Omega.{arith}
use borrow.Author.Tests.{eq-eqb, ne_eqb, le-ltb, eqb-true}
use Rattle.std.specs.List.{list_all}
use lib.Dec.{eqb, leb, ltb}
use lib.ListN.{length, get_or, drop, length-drop, drop_of_length-le}
use lib.Seq.{drop-cons, get_or-drop}
use Rattle.protocol.specs.Bytes.{Bytes, pick, le, whole}
use Rattle.protocol.specs.Hours.{day_at, weekday, minute_at, within, lets}
use Rattle.protocol.specs.Records.{u32_at}
use Rattle.protocol.proofs.Bytes.{le4}
use Rattle.id_table.proofs.Groups.{word_in}
use Rattle.hours.specs.Settings.{hours_size, all_zero, is_day, are_days}
use Rattle.hours.specs.Slots.{spans_from, numbers, hours_of}

-- ---- zeros

pub all-zero : (s : List ℕ) → list_all (λ b. eqb b 0) s ≡ all_zero s
all-zero [] = refl
all-zero (b ∷ s) = ap (λ t. eqb b 0 && t) (all-zero s)

-- ---- four bytes are two numbers

abbrev pub word_at : List ℕ → ℕ → ℕ
word_at s at = whole 4 0 (u32_at 0) s at

module _ (s : List ℕ) (at : ℕ) (b : Bytes s) (h : at + 4 ≤ length s) where
  pub low_word : word_at s at % 65536 ≡ get_or s at 0 + 256 * get_or s (at + 1) 0
  low_word = omega (arith, word_in s at h, le4 s at h, b at, b (at + 1))

  pub high_word : word_at s at / 65536 ≡ get_or s (at + 2) 0 + 256 * get_or s (at + 3) 0
  high_word = omega (arith, word_in s at h, le4 s at h, b at, b (at + 1))

  four-there : drop at s ≡ get_or s at 0 ∷ get_or s (at + 1) 0 ∷ get_or s (at + 2) 0 ∷ get_or s (at + 3) 0 ∷ drop (at + 4) s
  four-there =
      let e2 : at + 1 + 1 ≡ at + 2 = omega arith in
      let e3 : at + 2 + 1 ≡ at + 3 = omega arith in
      let e4 : at + 3 + 1 ≡ at + 4 = omega arith in
      let d0 : drop at s ≡ get_or s at 0 ∷ drop (at + 1) s = rw add-one (drop-cons s at 0 (omega arith)) in
      let d1 : drop (at + 1) s ≡ get_or s (at + 1) 0 ∷ drop (at + 2) s = rw (← e2, add-one (at + 1)) (drop-cons s (at + 1) 0 (omega arith)) in
      let d2 : drop (at + 2) s ≡ get_or s (at + 2) 0 ∷ drop (at + 3) s = rw (← e3, add-one (at + 2)) (drop-cons s (at + 2) 0 (omega arith)) in
      let d3 : drop (at + 3) s ≡ get_or s (at + 3) 0 ∷ drop (at + 4) s = rw (← e4, add-one (at + 3)) (drop-cons s (at + 3) 0 (omega arith)) in
      rw (d0, d1, d2, d3)

  pub days-next : are_days (numbers (drop at s)) ≡ is_day (word_at s at % 65536) (word_at s at / 65536) && are_days (numbers (drop (at + 4) s))
  days-next =
      let low : le (get_or s at 0 ∷ get_or s (at + 1) 0 ∷ []) ≡ word_at s at % 65536 = omega (arith, low_word) in
      let high : le (get_or s (at + 2) 0 ∷ get_or s (at + 3) 0 ∷ []) ≡ word_at s at / 65536 = omega (arith, high_word) in
      ap (λ (l : List ℕ). are_days (numbers l)) four-there
      ∙ ap₂ (λ (o c : ℕ). is_day o c && are_days (numbers (drop (at + 4) s))) low high

pub days-end : (s : List ℕ) (at : ℕ) → length s ≤ at → are_days (numbers (drop at s)) ≡ true
days-end s at h = rw (drop_of_length-le s {i = at} h)

-- ---- the day of a moment

none_then : (o t : ℕ) → leb o (minute_at t) && ltb (minute_at t) 0 ≡ false
none_then o t = rw (le-ltb (minute_at t) 0 (omega arith)) (and-false (leb o (minute_at t)))

-- it is not among the days behind it
within-behind : (d : ℕ) (l : List ℕ) (t : ℕ) → weekday (day_at t) < d → within (spans_from d l) t ≡ false
unfolding spans_from
within-behind d [] t h = refl
within-behind d (o ∷ []) t h = refl
within-behind d (o ∷ c ∷ l) t h = go (eqb c 0) (within-behind (suc d) l t (omega arith))
  where
    go : (z : Bool) → within (spans_from (suc d) l) t ≡ false
        → within (pick z (spans_from (suc d) l) (record { day = d; opens = o; closes = c } ∷ spans_from (suc d) l)) t ≡ false
    go true rest = rest
    go false rest = rw (ne_eqb d (weekday (day_at t)) (λ e. omega (arith, e)), rest)

empty-day : (n m t : ℕ) → leb (get_or [] n 0) (minute_at t) && ltb (minute_at t) (get_or [] m 0) ≡ false
empty-day n m t = none_then 0 t

pub day-there : (k d : ℕ) (l : List ℕ) (t : ℕ) → weekday (day_at t) ≡ d + k
    → within (spans_from d l) t ≡ leb (get_or l (k + k) 0) (minute_at t) && ltb (minute_at t) (get_or l (suc (k + k)) 0)
unfolding spans_from
day-there k d [] t e = sym (empty-day (k + k) (suc (k + k)) t)
day-there k d (o ∷ []) t e = sym (none_then (get_or (o ∷ []) (k + k) 0) t)
day-there zero d (o ∷ c ∷ l) t e = go (eqb c 0) refl
  where
    rest : within (spans_from (suc d) l) t ≡ false
    rest = within-behind (suc d) l t (omega arith)

    today : d ≡ weekday (day_at t)
    today = omega arith

    or-false : (b : Bool) → b || false ≡ b
    or-false true = refl
    or-false false = refl

    go : (z : Bool) → eqb c 0 ≡ z → within (pick z (spans_from (suc d) l) (record { day = d; opens = o; closes = c } ∷ spans_from (suc d) l)) t
        ≡ leb o (minute_at t) && ltb (minute_at t) c
    go true q = rest ∙ sym (rw (eqb-true c 0 q) (none_then o t))
    go false q = rw (eq-eqb d (weekday (day_at t)) today, rest) (or-false (leb o (minute_at t) && ltb (minute_at t) c))
day-there (suc k) d (o ∷ c ∷ l) t e = go (eqb c 0) (day-there k (suc d) l t (omega arith))
  where
    two : suc k + suc k ≡ suc (suc (k + k))
    two = omega arith

    go : (z : Bool) → within (spans_from (suc d) l) t ≡ leb (get_or l (k + k) 0) (minute_at t) && ltb (minute_at t) (get_or l (suc (k + k)) 0)
        → within (pick z (spans_from (suc d) l) (record { day = d; opens = o; closes = c } ∷ spans_from (suc d) l)) t
        ≡ leb (get_or (o ∷ c ∷ l) (suc k + suc k) 0) (minute_at t) && ltb (minute_at t) (get_or (o ∷ c ∷ l) (suc (suc k + suc k)) 0)
    go true r = rw two r
    go false r = rw (two, ne_eqb d (weekday (day_at t)) (λ q. omega (arith, q, e))) r

number-at : (j : ℕ) (l : List ℕ) → suc (j + j) < length l → get_or (numbers l) j 0 ≡ get_or l (j + j) 0 + 256 * get_or l (suc (j + j)) 0
number-at j [] h = absurd (omega arith)
number-at j (a ∷ []) h = absurd (omega arith)
number-at zero (a ∷ b ∷ l) h = omega arith
number-at (suc j) (a ∷ b ∷ l) h = let two : suc j + suc j ≡ suc (suc (j + j)) = omega arith in rw two (number-at j l (omega arith))

pub lets_by : (b : List ℕ) (t : ℕ) → Bytes b → hours_size ≤ length b → (get_or b 0 0 ≡ 0 → ⊥)
    → lets (hours_of b) t ≡ leb (word_at b (4 + 4 * weekday (day_at t)) % 65536) (minute_at t) && ltb (minute_at t) (word_at b (4 + 4 * weekday (day_at t)) / 65536)
unfolding hours_of
lets_by b t p h f =
    let k : ℕ = weekday (day_at t) in
    let at : ℕ = 4 + 4 * k in
    let small : k < 7 = omega arith in
    let long = length-drop 4 b in
    let low : get_or (numbers (drop 4 b)) (k + k) 0 ≡ word_at b at % 65536 =
    number-at (k + k) (drop 4 b) (omega arith)
    ∙ ap₂ (λ (x y : ℕ). x + 256 * y) (get_or-drop 4 b (k + k + (k + k)) 0 ∙ ap (λ (i : ℕ). get_or b i 0) (omega arith)) (get_or-drop 4 b (suc (k + k + (k + k))) 0 ∙ ap (λ (i : ℕ). get_or b i 0) (omega arith))
    ∙ sym (low_word b at p (omega arith)) in
    let high : get_or (numbers (drop 4 b)) (suc (k + k)) 0 ≡ word_at b at / 65536 =
    number-at (suc (k + k)) (drop 4 b) (omega arith)
    ∙ ap₂ (λ (x y : ℕ). x + 256 * y) (get_or-drop 4 b (suc (k + k) + suc (k + k)) 0 ∙ ap (λ (i : ℕ). get_or b i 0) (omega arith)) (get_or-drop 4 b (suc (suc (k + k) + suc (k + k))) 0 ∙ ap (λ (i : ℕ). get_or b i 0) (omega arith))
    ∙ sym (high_word b at p (omega arith)) in
    rw (ne_eqb (get_or b 0 0) 0 f) (day-there k 0 (numbers (drop 4 b)) t (omega arith) ∙ ap₂ (λ (o c : ℕ). leb o (minute_at t) && ltb (minute_at t) c) low high)

pub lets-none : (b : List ℕ) (t : ℕ) → get_or b 0 0 ≡ 0 → lets (hours_of b) t ≡ true
unfolding hours_of
lets-none b t e = rw (eq-eqb (get_or b 0 0) 0 e)
