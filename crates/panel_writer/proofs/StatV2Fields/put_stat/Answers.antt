-- `panel_writer::StatV2Fields::put_stat` meets its contract: each field behind those before it.
use mathlib.Core.List.{List, [], ◌∷◌, ◌++◌}
use Prim.Native.Nat.{ℕ}
use native.Mathlib.Omega.{arith}
use mir.Syntax.{w64}
use mir.Val.{SFits}
use borrow.Author.Rules.{rules}
use Rattle.protocol.specs.Messages.{word}
use Rattle.record.specs.Fields.{unsigned}
use Rattle.record_store.proofs.Times.{time}
use Rattle.record.specs.Record.{words}
use Rattle.panel_reply.specs.Replies.{long}
use Rattle.panel_writer.proofs.Laws.{put-behind}
use Rattle.panel_writer.proofs.StatV2Fields.put_stat.Goals as goal

pub returns : goal.returns
returns c =
    let a = c.args in
    let s = a.self in
    let out = a.out.now in
    let read : SFits w64 s.atime = search rules in
    let written : SFits w64 s.mtime = search rules in
    let changed : SFits w64 s.ctime = search rules in
    let ks : List ℕ = word a.id ++ word s.error in
    let ms : List ℕ = ks ++ long s.dev ++ long s.ino in
    let ns : List ℕ = ms ++ (word s.mode.0 ++ word s.nlink ++ word s.uid ++ word s.gid) in
    let two = put-behind out 0 4 (word a.id) (word s.error) c.put_u32.ensures c.put_u32-2.ensures (omega arith) (omega arith) in
    let three = put-behind out 0 8 ks (long s.dev) two c.put_u64.ensures (omega arith) (omega arith) in
    let four = put-behind out 0 16 (ks ++ long s.dev) (long s.ino) three c.put_u64-2.ensures (omega arith) (omega arith) in
    let eight = put-behind out 0 24 ms (word s.mode.0 ++ word s.nlink ++ word s.uid ++ word s.gid) four c.put_words.ensures (omega arith) (omega arith) in
    let last = rw (time s.atime read.sfits c.cast_unsigned-atime.ensures, time s.mtime written.sfits c.cast_unsigned-mtime.ensures, time s.ctime changed.sfits c.cast_unsigned-ctime.ensures) at c.put_u64s.ensures in
    put-behind out 0 40 ns (words (s.size ∷ unsigned s.atime ∷ unsigned s.mtime ∷ unsigned s.ctime ∷ [])) eight last (omega arith) (omega arith)
