-- What opening comes to, beside `Rattle.boundary.specs.Crossing`.
-- Assumes nothing.
use Rattle.std.specs.Prelude.{ℕ, List}
use Rattle.boundary.specs.Crossing.{OpenCrossed}

abbrev pub open_crossed : List ℕ → ℕ → OpenCrossed
open_crossed rec n = record { rec = rec; number = n }
