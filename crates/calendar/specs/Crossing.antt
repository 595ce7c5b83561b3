-- What crosses to the host of a moment: its date, weekday and minute, five numbers of eight bytes, the lowest byte first.
-- Assumes nothing.
use Rattle.std.specs.Prelude.{ℕ, List, [], ◌∷◌, ◌++◌, leb, length}
use Rattle.protocol.specs.Bytes.{pick, bytes_of, number_at, put}
use Rattle.protocol.specs.Hours.{day_at, weekday, minute_at}
use Rattle.calendar.specs.Calendar.{Date, date_of}

-- the length that a slice for a reply has at least (boundary/specs/Told)
abbrev pub reply_size : ℕ
reply_size = 120

-- a slice that is shorter
abbrev pub misplaced : ℕ
misplaced = 3

-- every byte of the slice, and the answer
abbrev pub laid : List ℕ → ℕ → List ℕ × ℕ
laid out n = (out, n)

abbrev pub five_size : ℕ
five_size = 40

abbrev pub five : (a b c d e : ℕ) → List ℕ
five a b c d e = bytes_of 8 a ++ bytes_of 8 b ++ bytes_of 8 c ++ bytes_of 8 d ++ bytes_of 8 e

-- year, month, day of the month, weekday (0 is Monday), minute of the day
abbrev pub date_bytes : Date → (weekday minute : ℕ) → List ℕ
date_bytes d w n = five d.year d.month d.day w n

-- the five that the host reads at the front of a slice
abbrev pub five_in : List ℕ → List ℕ
five_in s = number_at 8 0 s ∷ number_at 8 8 s ∷ number_at 8 16 s ∷ number_at 8 24 s ∷ number_at 8 32 s ∷ []

-- "give the Gregorian date of each moment": at the front of the slice. 0, or 3 and the slice is left alone
unfoldable pub cross_date : (moment : ℕ) → (out : List ℕ) → List ℕ × ℕ
cross_date t out =
    pick (leb reply_size (length out)) (put out 0 (date_bytes (date_of (day_at t)) (weekday (day_at t)) (minute_at t)), 0)
    (out, misplaced)
