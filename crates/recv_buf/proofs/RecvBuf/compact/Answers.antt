-- `recv_buf::RecvBuf::compact` meets its contract.
use mathlib.Core.Path.{sym}
use native.Mathlib.Nat.{zero-add}
use native.Mathlib.Omega.{arith}
use borrow.Author.Tests.{le-leb, lt-leb}
use Rattle.recv_buf.specs.RecvBuf.{compacted}
use Rattle.recv_buf.proofs.Laws.{slice-part, compacted-front}
use Rattle.recv_buf.proofs.RecvBuf.compact.Goals.{
  then-self-eq0-via-then-self-eq0,
  then-self-eq0-via-else-self-eq0+then-self,
  then-self-eq0-via-else-self-eq0+else-self+then-buf-self,
}
use Rattle.recv_buf.proofs.RecvBuf.compact.Goals as goal

pub returns-then-self-eq0 : goal.returns-then-self-eq0
unfolding compacted
returns-then-self-eq0 c =
    elim c.then-self-eq0.branch [
      | then-self-eq0-via-then-self-eq0 w ↦ sym (compacted-front c.args.buf.now c.args.self w.if-self-eq0.true)
      | then-self-eq0-via-else-self-eq0+then-self w ↦ simp (lt-leb _ _ w.if-self.true)
      | then-self-eq0-via-else-self-eq0+else-self+then-buf-self w ↦ simp (le-leb _ _ w.if-self.false, lt-leb _ _ w.if-buf-self.true)
    ]

pub returns : goal.returns
unfolding compacted
returns c =
    let s = c.args in
    simp (le-leb _ _ c.if-self.false, le-leb _ _ c.if-buf-self.false)
    (rw (c.copy_within.ensures.after, c.held.ensures, slice-part s.self.head s.self.tail s.buf.now (omega arith) (omega arith), zero-add))
