-- A table holds where its columns are equal, and only there. Assumes nothing.
use Prim.Native.Nat.{ℕ}
use mathlib.Core.List.{[], ◌∷◌}
use mathlib.Core.Path.{ap}
use native.Mathlib.Omega.{arith}
use lib.ListN.{get_or}
use Rattle.protocol.specs.Fact.{Hold}

-- two rows, of which the second is wrong
pub not-vacuous : Hold {A = ℕ} (record { computed = 1; paper = 1 } ∷ record { computed = 2; paper = 3 } ∷ []) → ⊥
not-vacuous e = absurd (omega (arith, ap (λ l. get_or l 1 0) e))
