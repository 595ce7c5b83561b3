-- `session_reports::wrote` meets its contract: refused by 3, 6 or 5, or as the pending step has it.
use Rattle.session_pump.proofs.Parts.{out_eq}
use Rattle.session_refusal.proofs.Laws.{admitted, reported}
use Rattle.session.proofs.Refused.{misused_out}
use Rattle.session.proofs.Misfit.{guarded-in}
use Rattle.session.specs.Reports.{wrote_at, report_wrote}
use Rattle.session.specs.State.{st}
use Rattle.session.specs.declared.Pending.{Pending}
use Rattle.session_reports.proofs.Laws.{wrote-other}
use mathlib.Core.Path.{refl, ◌∙◌}
use Rattle.session_reports.proofs.wrote.Goals as goal

pub returns-in-Err : goal.returns-in-Err
unfolding report_wrote
returns-in-Err c = out_eq _ _ c.misused.ensures ∙ misused_out _ _ _ _ c.in-Err.ensures

pub returns-in-Writing : goal.returns-in-Writing
unfolding report_wrote wrote_at
returns-in-Writing c =
    let a = c.args in
    let s = st a.s a.rx.now a.msg.now in
    reported s _ c.in_default.ensures (λ (p : Pending). wrote_at p s a.lent.now) c.in-Writing.is
    (c.wrote.ensures ∙ guarded-in _ _ (admitted s _ c.in_default.ensures))

pub returns-in-Closing : goal.returns-in-Closing
unfolding report_wrote wrote_at
returns-in-Closing c =
    let a = c.args in
    let s = st a.s a.rx.now a.msg.now in
    reported s _ c.in_default.ensures (λ (p : Pending). wrote_at p s a.lent.now) c.in-Closing.is
    (c.close.ensures _ _)

pub returns-in_default-pending : goal.returns-in_default-pending
unfolding report_wrote
returns-in_default-pending c =
    let a = c.args in
    let s = st a.s a.rx.now a.msg.now in
    reported s _ c.in_default.ensures (λ (p : Pending). wrote_at p s a.lent.now) refl
    (out_eq _ _ c.misused-in_default-pending.ensures ∙ wrote-other s a.lent.now _ c.in_default-pending.not-Writing c.in_default-pending.not-Closing)
