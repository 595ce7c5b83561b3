-- `session_sender::message_out` meets its contract.
use Rattle.session_pump.proofs.Parts.{half-eq}
use Rattle.session_sender.proofs.Laws.{whole_out, pieces-out, piece_sent_lem}
use Rattle.session.specs.State.{stepped}
use Rattle.session.specs.declared.Session.{Session}
use lib.ListN.{length}
use mathlib.Core.Path.{ap, ◌∙◌}
use Rattle.session.specs.declared.Reply.TheVariants as R
use Rattle.session_sender.proofs.message_out.Goals as goal

pub returns-in_default : goal.returns-in_default
returns-in_default c =
    let a = c.args in
    let own = c.id_for-id.ensures in
    half-eq _ (piece_sent_lem a.q a.from (length a.part.now) 0 c.at-idle.ensures own c.piece_at.ensures.value c.send_piece.ensures)
    ∙ pieces-out a.s a.rx.now a.q a.from a.part.now _ _ c.compact-buf.ensures _ own _ _ c.compose_at.ensures c.in_default.is

pub returns : goal.returns
returns c =
    let a = c.args in
    half-eq _ (ap (λ (z : Session). stepped z (R.WriteRx c.compact-buf.result.tail c.in-Some.len)) c.at.ensures)
    ∙ whole_out a.s a.rx.now a.q a.from a.part.now _ _ c.compact-buf.ensures _ c.id_for-id.ensures _ _ c.compose_at.ensures c.in-Some.len c.in-Some.is
