-- `record_store::put_dent_v2` meets its contract.
use mir.Syntax.{w64}
use mir.Val.{SFits}
use borrow.Author.Rules.{rules}
use Rattle.record_store.proofs.Times.{time}
use Rattle.record_store.proofs.put_dent_v2.Goals as goal

pub returns : goal.returns
returns c =
    let s = c.args.d.stat in
    let read : SFits w64 s.atime = search rules in
    let written : SFits w64 s.mtime = search rules in
    let changed : SFits w64 s.ctime = search rules in
    rw (
      time s.atime read.sfits c.cast_unsigned.ensures,
      time s.mtime written.sfits c.cast_unsigned-2.ensures,
      time s.ctime changed.sfits c.cast_unsigned-3.ensures,
    ) at c.put_u64s.ensures
