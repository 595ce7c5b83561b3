-- `recv_buf::RecvBuf::hold` meets its contract.
use mathlib.Core.List.{List}
use mathlib.Core.Path.{sym, ap, ◌∙◌}
use Prim.Native.Nat.{ℕ}
use native.Mathlib.Omega.{arith}
use Rattle.recv_buf.specs.RecvBuf.{read}
use Rattle.recv_buf.specs.declared.RecvBuf.{RecvBuf}
use Rattle.recv_buf.proofs.Laws.{holding-large, holding-held, holding-window, holding-end}
use Rattle.recv_buf.proofs.RecvBuf.hold.Goals as goal

pub returns-then-buf-n : goal.returns-then-buf-n
returns-then-buf-n c = sym (holding-large _ _ _ (omega arith))

pub returns-then-n-held : goal.returns-then-n-held
returns-then-n-held c = sym (holding-held _ _ _ (omega arith) (omega arith))

pub returns-then-self-buf : goal.returns-then-self-buf
returns-then-self-buf c = sym (holding-window _ _ _ (omega arith) (omega arith) (omega arith))

pub returns : goal.returns
returns c =
    let s = c.args in
    ap (λ (p : List ℕ × RecvBuf). (p.0, read p.1)) c.compact.ensures
    ∙ sym (holding-end s.buf.now s.self s.n (omega arith) (omega arith) (omega arith))
