-- `hours::are_days` meets its contract. The invariant of its loop: all are days if those from `day` on are.
use mathlib.Core.Path.{◌≡◌}
use Prim.Native.Nat.{◌+◌, ◌*◌}
use lib.ListN.{drop}
use Rattle.hours.specs.Settings.{are_days}
use Rattle.hours.specs.Slots.{numbers}
use Rattle.hours.proofs.are_days.Given as goal

abbrev pub invariant-loop-day : goal.invariant-loop-day
invariant-loop-day l = are_days (numbers (drop 4 l.bytes)) ≡ are_days (numbers (drop (4 + 4 * l.day) l.bytes))
