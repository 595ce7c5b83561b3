-- Days and dates: document 02, [10], "1970-01-01 was a Thursday .. Also give the Gregorian date of each moment".
-- Assumes nothing.
use Rattle.std.specs.Prelude.{ℕ, zero, suc, ◌+◌, ◌-◌, ◌%◌, ◌≤◌, Bool, true, false, ◌&&◌, ◌||◌, not, List, [], ◌∷◌, eqb, ltb, get_or}
use Rattle.protocol.specs.Bytes.{pick}

-- a month from 1 to 12, a day from 1 on
pub record Date : Type 0 where
  pub year : ℕ
  pub month : ℕ
  pub day : ℕ

abbrev pub date : (year month day : ℕ) → Date
date y m d = record { year = y; month = m; day = d }

-- the Gregorian rule: every fourth year, of the hundreds every fourth
unfoldable pub leap : ℕ → Bool
leap y = eqb (y % 4) 0 && (not (eqb (y % 100) 0) || eqb (y % 400) 0)

unfoldable pub year_length : ℕ → ℕ
year_length y = pick (leap y) 366 365

abbrev pub february : Bool → ℕ
february true = 29
february false = 28

-- from January on; 0 for what is no month
abbrev pub lengths : Bool → List ℕ
lengths l = 31 ∷ february l ∷ 31 ∷ 30 ∷ 31 ∷ 30 ∷ 31 ∷ 31 ∷ 30 ∷ 31 ∷ 30 ∷ 31 ∷ []

unfoldable pub month_length : (year month : ℕ) → ℕ
month_length y m = get_or (0 ∷ lengths (leap y)) m 0

-- the dates from 1970 on
pub record Valid (d : Date) : Type 0 where
  pub from : 1970 ≤ d.year
  pub first : 1 ≤ d.month
  pub last : d.month ≤ 12
  pub one : 1 ≤ d.day
  pub within : d.day ≤ month_length d.year d.month

-- the day after
unfoldable pub following : Date → Date
following d =
    pick (ltb d.day (month_length d.year d.month)) (date d.year d.month (suc d.day))
    (pick (ltb d.month 12) (date d.year (suc d.month) 1) (date (suc d.year) 1 1))

-- ---- the date of a day, by its number: 1970-01-01 is day 0

-- n days behind the first of a month (f, the months behind it, ends the recursion)
unfoldable pub month_from : ℕ → (year month n : ℕ) → Date
month_from zero y m n = date y m (suc n)
month_from (suc f) y m n = pick (ltb n (month_length y m)) (date y m (suc n)) (month_from f y (suc m) (n - month_length y m))

-- n days behind the first of a year (f, at least n, ends the recursion)
unfoldable pub year_from : ℕ → (year n : ℕ) → Date
year_from zero y n = date y 1 (suc n)
year_from (suc f) y n = pick (ltb n (year_length y)) (month_from 11 y 1 n) (year_from f (suc y) (n - year_length y))

unfoldable pub date_of : ℕ → Date
date_of n = year_from (suc n) 1970 n

-- ---- the day of a date

-- the days of the months before this one
unfoldable pub before_month : (year month : ℕ) → ℕ
before_month y zero = 0
before_month y (suc m) = before_month y m + month_length y m

-- the days of k years from 1970 on
unfoldable pub years : ℕ → ℕ
years zero = 0
years (suc k) = years k + year_length (1970 + k)

unfoldable pub day_of : Date → ℕ
day_of d = years (d.year - 1970) + before_month d.year d.month + (d.day - 1)
