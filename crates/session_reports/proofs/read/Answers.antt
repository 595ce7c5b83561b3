-- `session_reports::read` meets its contract: refused by 3, 6 or 5, or as the pending step has it.
use Rattle.session_pump.proofs.Parts.{out_eq}
use Rattle.session_refusal.proofs.Laws.{admitted, reported}
use Rattle.session.proofs.Refused.{misused_out}
use Rattle.session.specs.Reports.{read_at, report_read}
use Rattle.session.specs.State.{st}
use Rattle.session.specs.declared.Pending.{Pending}
use Rattle.session_reports.proofs.Laws.{read-other}
use mathlib.Core.Path.{refl, ◌∙◌}
use Rattle.session_reports.proofs.read.Goals as goal

pub returns-in-Err : goal.returns-in-Err
unfolding report_read
returns-in-Err c = out_eq _ _ c.misused.ensures ∙ misused_out _ _ _ _ c.in-Err.ensures

pub read_in-requires : goal.read_in-requires
read_in-requires c =
    let a = c.args in
    admitted (st a.s a.rx.now a.msg.now) a.lent c.in_default.ensures

pub returns-in-Reading : goal.returns-in-Reading
unfolding report_read read_at
returns-in-Reading c =
    let a = c.args in
    let s = st a.s a.rx.now a.msg.now in
    reported s _ c.in_default.ensures (λ (p : Pending). read_at p s a.n) c.in-Reading.is
    c.read_in.ensures

pub returns-in_default-pending : goal.returns-in_default-pending
unfolding report_read
returns-in_default-pending c =
    let a = c.args in
    let s = st a.s a.rx.now a.msg.now in
    reported s _ c.in_default.ensures (λ (p : Pending). read_at p s a.n) refl
    (out_eq _ _ c.misused-in_default-pending.ensures ∙ read-other s a.n _ c.in_default-pending.not-Reading)
