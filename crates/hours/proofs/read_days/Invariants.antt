-- `hours::read_days` meets its contract. The invariant of its loop: reading what is left, with days from `next` on, comes to the same as reading
-- all. The measure is what is left.
use mathlib.Core.Path.{◌≡◌}
use Prim.Native.Nat.{◌≤◌}
use lib.ListN.{length, replicate}
use Rattle.hours.specs.Scan.{days_size, scanned}
use Rattle.hours.proofs.read_days.Given as goal

abbrev pub invariant-loop-rest : goal.invariant-loop-rest
invariant-loop-rest l =
    (length l.days ≡ days_size) × (length l.rest ≤ length l.lines) × (scanned 0 (replicate days_size 0) l.lines ≡ scanned l.next l.days l.rest)

abbrev pub decreases-loop-rest : goal.decreases-loop-rest
decreases-loop-rest l = length l.rest
