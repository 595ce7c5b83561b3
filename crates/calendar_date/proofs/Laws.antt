-- Laws of the date of a day, one year or one month on, of what crosses, and of numbers put one behind the other. Assumes nothing.
use mathlib.Core.Bool.{Bool, true, false}
use mathlib.Core.List.{List, [], ◌∷◌, append_assoc, append-nil}
use mathlib.Core.Path.{◌≡◌, refl, sym, ap, ◌∙◌}
use Prim.Native.Nat.{ℕ, zero, suc, ◌+◌, ◌-◌, ◌≤◌, ◌<◌}
use native.Mathlib.Omega.{arith}
use borrow.Author.Tests.{lt-ltb, le-ltb, le-leb, ltb-false}
use lib.Dec.{ltb}
use lib.ListN.{length, get_or-eq_default}
use Rattle.protocol.specs.Bytes.{pick, put}
use Rattle.protocol.specs.Hours.{day_at, weekday, minute_at}
use Rattle.format_number.specs.Words.{words}
use Rattle.calendar.specs.Calendar.{Date, date, year_length, month_length, month_from, year_from, date_of}
use Rattle.calendar.specs.Crossing.{reply_size, misplaced, laid, five, date_bytes, cross_date}
use Rattle.calendar.proofs.Calendar.{year-least}
use Rattle.calendar.proofs.Crossing.{short}

-- ---- years

-- what ends the recursion may be any number over n
year-fuel : (f g y n : ℕ) → n < f → n < g → year_from f y n ≡ year_from g y n
unfolding year_from
year-fuel zero g y n h k = absurd (omega arith)
year-fuel (suc f) zero y n h k = absurd (omega arith)
year-fuel (suc f) (suc g) y n h k =
    go (ltb n (year_length y)) refl (λ ge. year-fuel f g (suc y) (n - year_length y) (omega (arith, year-least y)) (omega (arith, year-least y)))
  where
    go : (b : Bool) → ltb n (year_length y) ≡ b
        → (year_length y ≤ n → year_from f (suc y) (n - year_length y) ≡ year_from g (suc y) (n - year_length y))
        → pick b (month_from 11 y 1 n) (year_from f (suc y) (n - year_length y)) ≡ pick b (month_from 11 y 1 n) (year_from g (suc y) (n - year_length y))
    go true e k = refl
    go false e k = k (ltb-false _ _ e)

-- a day of this year, and one of a later year
pub year-in : (y n : ℕ) → n < year_length y → year_from (suc n) y n ≡ month_from 11 y 1 n
unfolding year_from
year-in y n h = rw (lt-ltb _ _ h)

pub year-on : (y n : ℕ) → year_length y ≤ n → year_from (suc n) y n ≡ year_from (suc (n - year_length y)) (y + 1) (n - year_length y)
unfolding year_from
year-on y n h =
    let e : suc y ≡ y + 1 = omega arith in
    rw (le-ltb _ _ h, e) (year-fuel n (suc (n - year_length y)) (y + 1) (n - year_length y) (omega (arith, year-least y)) (omega arith))

-- ---- months

-- n days behind the first of a month, of which there are twelve
abbrev pub monthly : (year month n : ℕ) → Date
monthly y m n = month_from (12 - m) y m n

pub month-in : (y m n : ℕ) → m < 12 → n < month_length y m → monthly y m n ≡ date y m (n + 1)
unfolding month_from
month-in y m n h k =
    let e : 12 - m ≡ suc (11 - m) = omega arith in
    let s : suc n ≡ n + 1 = omega arith in
    rw (e, lt-ltb _ _ k, s)

pub month-on : (y m n : ℕ) → m < 12 → month_length y m ≤ n → monthly y m n ≡ monthly y (m + 1) (n - month_length y m)
unfolding month_from
month-on y m n h k =
    let e : 12 - m ≡ suc (12 - (m + 1)) = omega arith in
    let s : suc m ≡ m + 1 = omega arith in
    rw (e, le-ltb _ _ k, s)

pub month-last : (y m n : ℕ) → 12 ≤ m → monthly y m n ≡ date y m (n + 1)
unfolding month_from
month-last y m n h =
    let e : 12 - m ≡ 0 = omega arith in
    let s : suc n ≡ n + 1 = omega arith in
    rw (e, s)

-- that a month is none of j in a row from k on, as the last arm of a `match` has it: a fact for each, behind those of X
abbrev NoneOf : ℕ → Type 0 → ℕ → ℕ → Type 0
NoneOf m X k zero = X
NoneOf m X k (suc j) = NoneOf m (X × (m ≡ k → ⊥)) (suc k) j

past : (m : ℕ) (X : Type 0) (k j : ℕ) → NoneOf m X k j → X × (k ≤ m → k + j ≤ m)
past m X k zero h = (h, λ l. omega arith)
past m X k (suc j) h =
    let r = past m (X × (m ≡ k → ⊥)) (suc k) j h in
    (r.0.0, λ l. let n = r.0.1 in let o = r.1 (omega arith) in omega arith)

-- none of 1 to 12
pub no-month : (y m : ℕ) → NoneOf m (Unit {0}) 1 12 → 0 ≡ month_length y m
unfolding month_length
no-month y zero h = refl
no-month y (suc m) h = let l : 13 ≤ suc m = (past (suc m) (Unit {0}) 1 12 h).1 (omega arith) in rw get_or-eq_default

-- ---- what crosses

module _ (t : ℕ) (out : List ℕ) where
  pub cross_short : length out < reply_size → laid out misplaced ≡ cross_date t out
  cross_short h = sym (short t out h)

  -- the date that the code found, put with weekday and minute
  pub cross_long : {l : List ℕ} (d : Date) → reply_size ≤ length out → d ≡ date_of (day_at t) → l ≡ put out 0 (date_bytes d (weekday (day_at t)) (minute_at t))
      → laid l 0 ≡ cross_date t out
  unfolding cross_date
  cross_long d h e p =
      rw (le-leb _ _ h) (ap (λ (l : List ℕ). laid l 0) (p ∙ ap (λ (x : Date). put out 0 (date_bytes x (weekday (day_at t)) (minute_at t))) e))

-- ---- numbers one behind the other

pub five-words : (a b c d e : ℕ) → words (a ∷ b ∷ c ∷ d ∷ e ∷ []) ≡ five a b c d e
five-words a b c d e = simp (append_assoc, append-nil)
