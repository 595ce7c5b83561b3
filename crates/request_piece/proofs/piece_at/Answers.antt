-- `request_piece::piece_at` meets its contract.
use mathlib.Core.Path.{ap, ◌∙◌}
use lib.ListN.{length}
use Rattle.request_piece.specs.Pieces.{shown}
use Rattle.request_piece.specs.declared.Piece.TheVariants.{Header}
use Rattle.request_piece.proofs.Laws.{piece-shown, piece-header, piece-empty, piece-part}
use Rattle.request_piece.proofs.piece_at.Goals as goal

pub returns-then-k-eq0 : goal.returns-then-k-eq0
returns-then-k-eq0 c =
    let a = c.args in
    let e = ap (Header a.id) c.arg.ensures ∙ piece-header a.id a.q (length a.lent.now) a.k c.if-k-eq0.true in record { value = e; result_value = ap (shown a.lent.now) e ∙ piece-shown a.id a.q a.lent.now a.k }

pub returns-then-lent-eq0 : goal.returns-then-lent-eq0
returns-then-lent-eq0 c =
    let a = c.args in
    let e = c.part.ensures ∙ piece-empty a.id a.q (length a.lent.now) a.k c.if-k-eq0.false c.if-lent-eq0.true in record { value = e; result_value = ap (shown a.lent.now) e ∙ piece-shown a.id a.q a.lent.now a.k }

pub returns : goal.returns
returns c =
    let a = c.args in
    let e = c.part-2.ensures ∙ piece-part a.id a.q (length a.lent.now) a.k c.if-k-eq0.false c.if-lent-eq0.false in record { value = e; result_value = ap (shown a.lent.now) e ∙ piece-shown a.id a.q a.lent.now a.k }
