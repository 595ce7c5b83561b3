-- `panel_writer::say_chunk` meets its contract: of data that is not over the limit, 32 bits count the bytes.
use mathlib.Core.List.{◌++◌}
use Prim.Native.Nat.{suc}
use native.Mathlib.Omega.{arith}
use borrow.Author.Tests.{lt-ltb, le-ltb}
use lib.Dec.{ltb}
use lib.ListN.{length}
use Rattle.protocol.specs.Messages.{word, data_most}
use Rattle.panel_reply.specs.Replies.{with_length}
use Rattle.panel_writer.proofs.Laws.{taken_out}
use Rattle.panel_writer.proofs.say_chunk.Goals as goal

pub returns-then-bytes-gt-MAX_DATA : goal.returns-then-bytes-gt-MAX_DATA
returns-then-bytes-gt-MAX_DATA c =
    let a = c.args in
    let x = a.bytes.now in
    taken_out (ltb (length x) (suc data_most)) (word a.id ++ with_length x) a.out.now (rw (le-ltb (length x) (suc data_most) (omega (arith, c.if-bytes-gt-MAX_DATA.true))))

pub returns : goal.returns
returns c =
    let n = length c.args.bytes.now in
    rw (lt-ltb n (suc data_most) (omega (arith, c.if-bytes-gt-MAX_DATA.false))) (rw (lt-ltb n 0x1_0000_0000 (omega arith)) at c.say_counted.ensures)
