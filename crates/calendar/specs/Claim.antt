-- What is claimed of the calendar.
-- Assumes nothing.
use Rattle.std.specs.Prelude.{ℕ, suc, ◌+◌, ◌*◌, ◌/◌, ◌≤◌, ◌<◌, ◌^◌, List, [], ◌∷◌, ◌≡◌, length, drop}
use Rattle.protocol.specs.Hours.{day_at, weekday, minute_at}
use Rattle.calendar.specs.Calendar.{Date, date, Valid, following, date_of, day_of}
use Rattle.calendar.specs.Crossing.{reply_size, misplaced, laid, five_size, five_in, cross_date}

-- "show that dates and day numbers determine each other"
pub record Calendar : Type 0 where
  -- day 0 is 1970-01-01, and every next day has the date after
  pub epoch : date_of 0 ≡ date 1970 1 1
  pub each : (n : ℕ) → date_of (suc n) ≡ following (date_of n)
  -- every day has a date, and every date from 1970 on a day
  pub valid : (n : ℕ) → Valid (date_of n)
  pub there : (n : ℕ) → day_of (date_of n) ≡ n
  pub back : (d : Date) → Valid d → date_of (day_of d) ≡ d

-- "Also give the Gregorian date of each moment", in unsigned 32-bit seconds
pub record Dating : Type 0 where
  -- a slice that is long enough has these numbers at the front, and behind them what stood there
  pub answer : (t : ℕ) (out : List ℕ) → reply_size ≤ length out → (cross_date t out).1 ≡ 0
  pub told : (t : ℕ) (out : List ℕ) → reply_size ≤ length out → t < 2 ^ 32
      → five_in (cross_date t out).0 ≡ (date_of (day_at t)).year ∷ (date_of (day_at t)).month ∷ (date_of (day_at t)).day ∷ weekday (day_at t) ∷ minute_at t ∷ []
  pub behind : (t : ℕ) (out : List ℕ) → reply_size ≤ length out → drop five_size (cross_date t out).0 ≡ drop five_size out
  -- a shorter one is left alone
  pub short : (t : ℕ) (out : List ℕ) → length out < reply_size → cross_date t out ≡ laid out misplaced
  -- date and minute are those of no other minute
  pub minutes : (t : ℕ) → 1440 * day_of (date_of (day_at t)) + minute_at t ≡ t / 60
