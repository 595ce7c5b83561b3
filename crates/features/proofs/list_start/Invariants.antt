-- `features::list_start` meets its contract. The invariant of its loop: the marker does not begin before end - 9.
use mathlib.Core.Path.{◌≡◌}
use Prim.Native.Nat.{◌-◌, ◌≤◌}
use lib.ListN.{drop}
use Rattle.protocol.specs.Features.{marker, rest_after}
use Rattle.features.proofs.list_start.Given as goal

abbrev pub invariant-loop-end : goal.invariant-loop-end
invariant-loop-end l = (9 ≤ l.end) × (rest_after marker l.banner ≡ rest_after marker (drop (l.end - 9) l.banner))
