-- `recv_buf::RecvBuf::fill` meets its contract.
use mathlib.Core.Path.{◌≡◌, sym}
use Prim.Native.Nat.{◌+◌}
use native.Mathlib.Omega.{arith}
use Rattle.recv_buf.proofs.Laws.{filled_in, filled-out}
use Rattle.recv_buf.proofs.RecvBuf.fill.Goals as goal

pub returns-in-Some : goal.returns-in-Some
returns-in-Some c =
    let e : c.in-Some.tail ≡ c.args.self.tail + c.args.n = omega arith in
    rw e (sym (filled_in _ _ _ (omega arith)))

pub returns-in_default : goal.returns-in_default
returns-in_default c = sym (filled-out _ _ _ (omega arith))

pub returns-in_default-2 : goal.returns-in_default-2
returns-in_default-2 c = sym (filled-out _ _ _ (omega arith))
