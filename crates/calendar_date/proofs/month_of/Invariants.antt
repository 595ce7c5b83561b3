-- `calendar_date::month_of` meets its contract. The invariant of its loop: the date is that of the days left, from the first of the month on.
use mathlib.Core.Path.{◌≡◌}
use Prim.Native.Nat.{◌≤◌}
use Rattle.calendar.specs.Calendar.{month_from}
use Rattle.calendar_date.proofs.Laws.{monthly}
use Rattle.calendar_date.proofs.month_of.Given as goal

abbrev pub invariant-loop-month : goal.invariant-loop-month
invariant-loop-month l = (l.day ≤ l.number) × (monthly l.year l.month l.day ≡ month_from 11 l.year 1 l.number)
