-- `session_calls::recv_next` meets its contract.
use Rattle.session_calls.proofs.Laws.{chunk_in}
use Rattle.session_pump.proofs.Parts.{out_eq}
use Rattle.session.proofs.Refused.{misused_out}
use Rattle.session.specs.Calls.{guarded, chunk_call}
use Rattle.session.specs.State.{St, st}
use Rattle.session.specs.Steps.{read_on}
use Rattle.session.specs.Sends.{tidied}
use Rattle.session.specs.declared.Phase.TheVariants.{Header}
use Rattle.session.specs.declared.Session.{Session}
use mathlib.Core.Bool.{false}
use mathlib.Core.Path.{ap, ◌∙◌}
use Rattle.session.specs.declared.Want.TheVariants as W
use Rattle.session_calls.proofs.recv_next.Goals as goal

pub returns-in-Err : goal.returns-in-Err
unfolding chunk_call
returns-in-Err c = out_eq _ _ c.misused.ensures ∙ misused_out _ _ _ _ c.in-Err.ensures

pub returns : goal.returns
returns c =
    let a = c.args in
    c.read_on.ensures
    ∙ ap (λ (z : St). guarded z (read_on z (Header W.Chunk) false))
    (c.tidy-front.ensures a.msg.now ∙ ap (λ (z : Session). tidied (st z a.rx.now a.msg.now)) c.begun-begun.ensures)
    ∙ chunk_in (st a.s a.rx.now a.msg.now) c.in_default.ensures a.lent
