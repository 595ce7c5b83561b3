-- `boundary_reply::piece_behind` meets its contract: what is put at the front of the lent end is put behind eight bytes.
use native.Mathlib.Omega.{arith}
use Rattle.request_message.proofs.Laws.{placed_past, placed_end}
use Rattle.request_piece.specs.Pieces.{by_value}
use Rattle.boundary_reply.proofs.piece_behind.Goals as goal

pub returns-then-out-lt8 : goal.returns-then-out-lt8
returns-then-out-lt8 c = placed_past _ _ _ (omega arith)

pub returns : goal.returns
returns c =
    let a = c.args in
    let r = c.piece_bytes in
    placed_end a.out.now 8 (omega arith) (by_value a.p) r.new.out r.result r.ensures
