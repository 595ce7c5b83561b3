-- The facts of `specs/Facts.antt` hold. Assumes nothing.
use mathlib.Core.Path.{refl}
use Rattle.protocol.specs.Fact.{Hold}
use Rattle.panel_side.specs.Facts as F

pub capacities-hold : Hold F.capacities
capacities-hold = refl

pub answers-hold : Hold F.answers
answers-hold = refl
