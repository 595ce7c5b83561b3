-- `recv_buf::RecvBuf::take` meets its contract.
use mathlib.Core.Path.{sym}
use native.Mathlib.Omega.{arith}
use Rattle.recv_buf.proofs.Laws.{taken_in, taken_out}
use Rattle.recv_buf.proofs.RecvBuf.take.Goals as goal

pub returns-then-held-n : goal.returns-then-held-n
returns-then-held-n c = sym (taken_out _ _ (omega arith))

pub returns : goal.returns
returns c = sym (taken_in _ _ (omega arith))
