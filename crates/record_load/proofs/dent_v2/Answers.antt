-- `record_load::dent_v2` meets its contract.
use mathlib.Core.Path.{◌∙◌}
use borrow.Author.Rules.{sfits_of}
use mir.Facts.{to_z-of_z}
use mir.Syntax.{w64}
use Rattle.record_load.proofs.dent_v2.Goals as goal

-- a signed number is kept as its bits, and comes back
pub returns : goal.returns
returns c =
    rw (
      c.half.ensures,
      c.word.ensures,
      c.word-2.ensures,
      c.half-2.ensures,
      c.half-3.ensures,
      c.half-4.ensures,
      c.half-5.ensures,
      c.word-3.ensures,
      to_z-of_z {w = w64} (sfits_of c.time.type_inv) ∙ c.time.ensures,
      to_z-of_z {w = w64} (sfits_of c.time-2.type_inv) ∙ c.time-2.ensures,
      to_z-of_z {w = w64} (sfits_of c.time-3.type_inv) ∙ c.time-3.ensures,
      c.half-6.ensures,
    )
