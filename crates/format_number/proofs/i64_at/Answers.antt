-- `format_number::i64_at` meets its contract.
use mathlib.Core.Path.{sym, ap, ◌∙◌}
use borrow.Author.Rules.{rules}
use mir.Facts.{to_z-of_z}
use mir.Syntax.{w64}
use Rattle.protocol.specs.Bytes.{signed}
use Rattle.protocol.proofs.Records.{i64_whole}
use Rattle.format_number.proofs.Numbers.{to_z-signed}
use Rattle.format_number.proofs.i64_at.Goals as goal

pub returns : goal.returns
returns c =
    let a = c.args in
    to_z-of_z {w = w64} (search rules)
    ∙ c.cast_signed.ensures
    ∙ to_z-signed c.u64_at.result c.u64_at.type_inv
    ∙ ap signed c.u64_at.ensures
    ∙ sym (i64_whole a.s.now a.off)
