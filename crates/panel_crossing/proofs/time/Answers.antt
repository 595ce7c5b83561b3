-- `panel_crossing::time` meets its contract.
use mathlib.Core.Path.{◌∙◌}
use Prim.Native.Nat.{◌*◌}
use borrow.Author.Rules.{sfits_of}
use lib.IntN.{pos}
use mir.Facts.{to_z-of_z}
use mir.Syntax.{w64}
use Rattle.protocol.specs.Bytes.{number_at}
use Rattle.protocol.specs.Records.{i64_at}
use Rattle.protocol.proofs.Bytes.{whole_in}
use Rattle.panel_crossing.proofs.time.Goals as goal

pub returns : goal.returns
unfolding number_at
returns c =
    to_z-of_z {w = w64} (sfits_of c.i64_at.type_inv)
    ∙ c.i64_at.ensures
    ∙ whole_in 8 (pos 0) (i64_at 0) c.args.numbers.now (8 * c.args.i) c.requires
