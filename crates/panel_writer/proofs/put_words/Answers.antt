-- `panel_writer::put_words` meets its contract: each number behind those before it.
use mathlib.Core.List.{◌++◌}
use Prim.Native.Nat.{◌+◌}
use native.Mathlib.Omega.{arith}
use Rattle.protocol.specs.Messages.{word}
use Rattle.panel_writer.proofs.Laws.{put-behind}
use Rattle.panel_writer.proofs.put_words.Goals as goal

pub returns : goal.returns
returns c =
    let a = c.args in
    let out = a.out.now in
    let w = word a.a in
    let x = word a.b in
    let y = word a.c in
    let two = put-behind out a.off (a.off + 4) w x c.put_u32.ensures c.put_u32-2.ensures (omega arith) (omega arith) in
    let three = put-behind out a.off (a.off + 8) (w ++ x) y two c.put_u32-3.ensures (omega arith) (omega arith) in
    put-behind out a.off (a.off + 12) (w ++ x ++ y) (word a.d) three c.put_u32-4.ensures (omega arith) (omega arith)
