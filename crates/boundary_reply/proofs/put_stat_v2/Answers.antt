-- `boundary_reply::put_stat_v2` meets its contract.
use mir.Syntax.{w64}
use mir.Val.{SFits}
use borrow.Author.Rules.{rules}
use Rattle.record_store.proofs.Times.{time}
use Rattle.boundary_reply.proofs.put_stat_v2.Goals as goal

pub returns : goal.returns
returns c =
    let s = c.args.s in
    let read : SFits w64 s.atime = search rules in
    let written : SFits w64 s.mtime = search rules in
    let changed : SFits w64 s.ctime = search rules in
    rw (
      time s.atime read.sfits c.cast_unsigned-atime.ensures,
      time s.mtime written.sfits c.cast_unsigned-mtime.ensures,
      time s.ctime changed.sfits c.cast_unsigned-ctime.ensures,
    ) at c.put_u64s.ensures
