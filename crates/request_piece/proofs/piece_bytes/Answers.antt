-- `request_piece::piece_bytes` meets its contract.
use mathlib.Core.Logic.{inl, inr}
use Rattle.request_message.proofs.Laws.{placed-none}
use Rattle.request_piece.proofs.piece_bytes.Goals as goal

pub returns-in-Lent : goal.returns-in-Lent
returns-in-Lent c =
    elim c.in-Lent.is [
      | inl e ↦ rw e (placed-none _)
      | inr e ↦ rw e (placed-none _)
    ]
