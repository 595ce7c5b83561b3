-- `session_calls::next_entry` meets its contract.
use Rattle.session_calls.proofs.Laws.{entry_in_lem}
use Rattle.session_pump.proofs.Parts.{out_eq}
use Rattle.session.proofs.Refused.{misused_out}
use Rattle.session.specs.Calls.{guarded, entry_call}
use Rattle.session.specs.State.{st}
use Rattle.session.specs.Steps.{read_on}
use Rattle.session.specs.declared.Phase.TheVariants.{Header}
use Rattle.session.specs.declared.Session.{Session}
use mathlib.Core.Bool.{false}
use mathlib.Core.Path.{ap, ◌∙◌}
use Rattle.session.specs.declared.Want.TheVariants as W
use Rattle.session_calls.proofs.next_entry.Goals as goal

pub returns-in-Err : goal.returns-in-Err
unfolding entry_call
returns-in-Err c = out_eq _ _ c.misused.ensures ∙ misused_out _ _ _ _ c.in-Err.ensures

pub returns : goal.returns
returns c =
    let a = c.args in
    c.read_on.ensures
    ∙ ap (λ (z : Session). guarded (st z a.rx.now a.msg.now) (read_on (st z a.rx.now a.msg.now) (Header (W.Entry a.v)) false)) c.begun.ensures
    ∙ entry_in_lem (st a.s a.rx.now a.msg.now) c.in_default.ensures a.lent a.v
