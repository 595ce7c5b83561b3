-- Hours in the settings that the host lends: 32 bytes behind the fifteen ids.
-- Assumes nothing.
use Rattle.std.specs.Prelude.{ℕ, Bool, true, false, ◌&&◌, List, [], ◌∷◌, ◌++◌, map, eqb, leb, ltb, length, take, drop, replicate}
use Rattle.std.proofs.Math.Option.{Option, none, some}
use Rattle.protocol.specs.Bytes.{pick, le, over}
use Rattle.protocol.specs.Hours.{Hours, lets}
use Rattle.protocol.specs.Ids.{Table, all}
use Rattle.protocol.specs.Messages.{joined}
use Rattle.protocol.specs.Refusal.{closed_hours}
use Rattle.id_table.specs.Settings.{settings_size, table_size, misplaced}
use Rattle.hours.specs.File.{hours_in}
use Rattle.hours.specs.Slots.{numbers, hours_bytes, hours_of}

-- where the hours stand: bytes 60 to 91
abbrev pub hours_place : ℕ
hours_place = table_size

abbrev pub hours_size : ℕ
hours_size = 32

abbrev pub hours_end : ℕ
hours_end = 92

-- what is left behind them
abbrev pub rest_size : ℕ
rest_size = 36

-- the minutes of a day
abbrev pub day_minutes : ℕ
day_minutes = 1440

-- hours, in a file or in settings, of another form
abbrev pub bad_hours : ℕ
bad_hours = 24

abbrev pub hours_bytes_in : List ℕ → List ℕ
hours_bytes_in settings = take hours_size (drop hours_place settings)

-- settings with a table of ids, and with hours or none
unfoldable pub settings_with : Table → Option Hours → List ℕ
settings_with t h = joined (map t all) ++ hours_bytes h ++ replicate rest_size 0

-- ---- which bytes are those of hours

abbrev pub all_zero : List ℕ → Bool
all_zero [] = true
all_zero (b ∷ l) = eqb b 0 && all_zero l

-- a day's two numbers: both 0, or a span
abbrev pub is_day : (opens closes : ℕ) → Bool
is_day o c = pick (eqb c 0) (eqb o 0) (ltb o c && leb c day_minutes)

abbrev pub are_days : List ℕ → Bool
are_days [] = true
are_days (o ∷ []) = false
are_days (o ∷ c ∷ l) = is_day o c && are_days l

-- by the number in the first four bytes: 0 and zeros behind it, or 1 and seven days
abbrev pub flagged : ℕ → List ℕ → Bool
flagged flag l = pick (eqb flag 0) (all_zero l) (eqb flag 1 && are_days (numbers l))

unfoldable pub is_hours : List ℕ → Bool
is_hours b = pick (eqb (length b) hours_size) (flagged (le (take 4 b)) (drop 4 b)) false

-- ---- a file into the settings: what they become, and the answer; a refusal alters nothing

abbrev pub taken_hours : List ℕ → Option Hours → List ℕ × ℕ
taken_hours s none = (s, bad_hours)
taken_hours s (some h) = (over s hours_place (hours_bytes (some h)), 0)

unfoldable pub loaded_hours : (settings file : List ℕ) → List ℕ × ℕ
loaded_hours s file = pick (eqb (length s) settings_size) (taken_hours s (hours_in file)) (s, misplaced)

-- the hours of 32 bytes, or more; fewer have none, and every moment will do
abbrev pub lets_in : (bytes : List ℕ) → (moment : ℕ) → Bool
lets_in b moment = pick (ltb (length b) hours_size) true (lets (hours_of b) moment)

-- ---- whether a push may start at a moment: 3, 24 and 25 in this order, and else 0

unfoldable pub cross_may_push : (settings : List ℕ) → (moment : ℕ) → ℕ
cross_may_push s moment =
    pick (eqb (length s) settings_size)
    (pick (is_hours (hours_bytes_in s)) (pick (lets (hours_of (hours_bytes_in s)) moment) 0 closed_hours) bad_hours)
    misplaced
