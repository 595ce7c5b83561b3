-- `record_load::time` meets its contract.
use mathlib.Core.Path.{ap, ◌∙◌}
use native.Mathlib.Omega.{arith}
use borrow.Author.Rules.{sfits_of}
use mir.Facts.{to_z-of_z}
use mir.Syntax.{w64}
use Rattle.protocol.specs.Bytes.{signed}
use Rattle.protocol.proofs.Records.{i64_whole}
use Rattle.record.proofs.Words.{word_in}
use Rattle.record_load.proofs.time.Goals as goal

pub returns : goal.returns
returns c =
    let a = c.args in
    to_z-of_z {w = w64} (sfits_of c.i64_at.type_inv) ∙ c.i64_at.ensures ∙ i64_whole a.rec.now _ ∙ ap signed (word_in a.rec.now a.i (omega arith))
