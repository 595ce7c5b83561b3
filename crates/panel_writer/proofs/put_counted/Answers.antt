-- `panel_writer::put_counted` meets its contract.
use Prim.Native.Nat.{◌+◌}
use native.Mathlib.Omega.{arith}
use lib.ListN.{length}
use Rattle.protocol.specs.Messages.{word}
use Rattle.panel_writer.proofs.Laws.{put-behind}
use Rattle.panel_writer.proofs.put_counted.Goals as goal

pub returns : goal.returns
returns c =
    let a = c.args in
    let x = a.x.now in
    put-behind a.out.now a.off (a.off + 4) (word (length x)) x c.put_u32.ensures c.put_bytes.ensures (omega arith) (omega arith)
