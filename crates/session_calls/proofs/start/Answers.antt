-- `session_calls::start` meets its contract: refused by 3, 6 or 4, by 8, 7, 9 or 10, or the first message.
use Rattle.session_calls.proofs.Laws.{start-in}
use Rattle.session_pump.proofs.Parts.{out_eq, beside-eq}
use Rattle.session.proofs.Refused.{misused_out}
use Rattle.session.specs.Calls.{start_call}
use Rattle.session.specs.State.{st}
use mathlib.Core.Path.{◌∙◌}
use Rattle.session_calls.proofs.start.Goals as goal

pub returns-in-Err : goal.returns-in-Err
unfolding start_call
returns-in-Err c = out_eq _ _ c.misused.ensures ∙ misused_out _ _ _ _ c.in-Err.ensures

pub returns-in-Ok : goal.returns-in-Ok
returns-in-Ok c =
    let a = c.args in
    beside-eq _ c.first.ensures
    ∙ start-in (st a.s a.rx.now a.msg.now) c.in_default.ensures a.q a.lent.now _ _ c.in-Ok.is c.check_request.ensures

pub returns-in-Err-check_request : goal.returns-in-Err-check_request
returns-in-Err-check_request c =
    let a = c.args in
    out_eq _ _ c.refusing.ensures
    ∙ rw
    c.answer.ensures
    (start-in (st a.s a.rx.now a.msg.now) c.in_default.ensures a.q a.lent.now _ _ c.in-Err-check_request.is c.check_request.ensures)
