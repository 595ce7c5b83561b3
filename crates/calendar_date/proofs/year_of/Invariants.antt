-- `calendar_date::year_of` meets its contract. The invariant of its loop: the date is that of the days left, from the first of the year on. The
-- measure is how many days are left.
use mathlib.Core.Path.{◌≡◌}
use Prim.Native.Nat.{suc, ◌+◌, ◌*◌, ◌≤◌}
use Rattle.calendar.specs.Calendar.{year_length, year_from, date_of}
use Rattle.calendar_date.proofs.year_of.Given as goal

abbrev pub invariant-loop-length : goal.invariant-loop-length
invariant-loop-length l =
    (l.length ≡ year_length l.year) × ((365 * l.year + l.day ≤ 365 * 1970 + l.number) × (year_from (suc l.day) l.year l.day ≡ date_of l.number))

abbrev pub decreases-loop-length : goal.decreases-loop-length
decreases-loop-length l = l.day
