-- `hours::put_day` meets its contract.
use mathlib.Core.Path.{ap, ◌∙◌}
use Prim.Native.Nat.{◌*◌}
use native.Mathlib.Omega.{arith}
use Rattle.protocol.specs.Bytes.{put}
use Rattle.protocol.proofs.Bytes.{put_in}
use Rattle.hours.proofs.Scan.{pair_word}
use Rattle.hours.proofs.put_day.Goals as goal

pub returns : goal.returns
returns c =
    let a = c.args in
    c.put_u32.ensures
    ∙ ap (put a.days.now (4 * a.span.day)) (pair_word a.span.opens a.span.closes (omega arith))
    ∙ put_in a.days.now (4 * a.span.day) _ (omega arith)
