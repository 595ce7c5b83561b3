-- `recv_buf::RecvBuf::peek` meets its contract.
use native.Mathlib.Omega.{arith}
use borrow.Author.Tests.{le-leb, lt-leb}
use Rattle.recv_buf.specs.RecvBuf.{held_bytes}
use Rattle.recv_buf.proofs.Laws.{slice-part}
use Rattle.recv_buf.proofs.RecvBuf.peek.Goals.{then-self-via-then-self, then-self-via-else-self+then-buf-self}
use Rattle.recv_buf.proofs.RecvBuf.peek.Goals as goal

pub returns-then-self : goal.returns-then-self
unfolding held_bytes
returns-then-self c =
    elim c.then-self.branch [
      | then-self-via-then-self w ↦ simp (lt-leb _ _ w.if-self.true)
      | then-self-via-else-self+then-buf-self w ↦ simp (le-leb _ _ w.if-self.false, lt-leb _ _ w.if-buf-self.true)
    ]

pub returns : goal.returns
unfolding held_bytes
returns c =
    let a = c.args in
    simp (le-leb _ _ c.if-self.false, le-leb _ _ c.if-buf-self.false)
    (slice-part a.self.head a.self.tail a.buf.now (omega arith) (omega arith))
