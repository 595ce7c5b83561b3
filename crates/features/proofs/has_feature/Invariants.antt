-- `features::has_feature` meets its contract. The invariant of its loop: no piece before `start` is the name. The measure is what is left of
-- `banner`.
--
use mathlib.Core.Path.{◌≡◌}
use Prim.Native.Nat.{◌+◌, ◌-◌}
use lib.ListN.{length}
use Rattle.protocol.specs.Features.{some_is, has_feature}
use Rattle.features.specs.Meaning.{pieces_from}
use Rattle.features.proofs.has_feature.Given as goal

abbrev pub invariant-loop-start : goal.invariant-loop-start
invariant-loop-start l = has_feature l.banner l.name ≡ some_is l.name (pieces_from l.start l.banner)

abbrev pub decreases-loop-start : goal.decreases-loop-start
decreases-loop-start l = length l.banner + 1 - l.start
