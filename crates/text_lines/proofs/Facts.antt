-- The facts of `specs/Facts.antt` hold. Assumes nothing.
use mathlib.Core.Path.{refl}
use Rattle.protocol.specs.Fact.{Hold}
use Rattle.text_lines.specs.Facts.{reading, writing}
use Rattle.text_lines.specs.Lines.{lines_of}

pub lines-hold : Hold reading × Hold writing
unfolding lines_of
lines-hold = (refl, refl)
