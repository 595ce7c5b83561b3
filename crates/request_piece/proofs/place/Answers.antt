-- `request_piece::place` meets its contract.
use native.Mathlib.Omega.{arith}
use Rattle.request_message.proofs.Laws.{placed-out, placed-put}
use Rattle.request_piece.proofs.place.Goals as goal

pub returns-then-out-src : goal.returns-then-out-src
returns-then-out-src c = placed-out _ _ (omega arith)

pub returns : goal.returns
returns c =
    let a = c.args in
    cc (placed-put a.out.now a.src.now (omega arith))
