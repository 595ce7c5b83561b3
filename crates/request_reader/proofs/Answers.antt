-- The facts of `specs/Answers.antt` hold. Assumes nothing.
use mathlib.Core.Path.{refl}
use Rattle.protocol.specs.Fact.{Hold}
use Rattle.request_reader.specs.Answers.{numbers, meanings}

pub answers-hold : Hold numbers × Hold meanings
answers-hold = (refl, refl)
