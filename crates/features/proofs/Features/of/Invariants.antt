-- `features::Features::of` meets its contract. The invariant of its loop: a feature is had if it was found, or is in the pieces from `start` on.
-- The measure is what is left of `banner`.
--
use mathlib.Core.Path.{◌≡◌}
use Prim.Native.Nat.{ℕ, ◌+◌, ◌-◌, ◌≤◌}
use lib.ListN.{length}
use Rattle.protocol.specs.Features.{has_feature}
use Rattle.features.specs.Meaning.{pieces_from}
use Rattle.features.proofs.Found.{name_of, Had}
use Rattle.features.proofs.Features.of.Given as goal

abbrev pub invariant-loop-start : goal.invariant-loop-start
invariant-loop-start l =
    (length l.found ≡ 7)
    × ((n : ℕ) → 1 ≤ n → n ≤ 7 → has_feature l.banner (name_of n) ≡ Had l.found (pieces_from l.start l.banner) n)

abbrev pub decreases-loop-start : goal.decreases-loop-start
decreases-loop-start l = length l.banner + 1 - l.start
