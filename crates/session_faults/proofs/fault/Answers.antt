-- `session_faults::fault` meets its contract: refused by 3, 6 or 5, or as the pending step has it.
use Rattle.session_pump.proofs.Parts.{out_eq}
use Rattle.session_refusal.proofs.Laws.{admitted, reported}
use Rattle.session.proofs.Refused.{misused_out}
use Rattle.session.specs.Reports.{closed_out, fault_at, report_fault}
use Rattle.session.specs.State.{st}
use Rattle.session.specs.declared.Pending.{Pending}
use mathlib.Core.Path.{ap, ◌∙◌}
use Rattle.session_faults.proofs.fault.Goals as goal

pub returns-in-Err : goal.returns-in-Err
unfolding report_fault
returns-in-Err c = out_eq _ _ c.misused.ensures ∙ misused_out _ _ _ _ c.in-Err.ensures

pub write_fault-requires : goal.write_fault-requires
write_fault-requires c =
    let a = c.args in
    admitted (st a.s a.rx.now a.msg.now) a.lent c.in_default.ensures

pub returns-in-Reading : goal.returns-in-Reading
unfolding report_fault fault_at
returns-in-Reading c =
    let a = c.args in
    let s = st a.s a.rx.now a.msg.now in
    reported s _ c.in_default.ensures (λ (p : Pending). fault_at p s a.e) c.in-Reading.is
    (out_eq _ _ c.read_fault.ensures)

pub returns-in-Writing : goal.returns-in-Writing
unfolding report_fault fault_at
returns-in-Writing c =
    let a = c.args in
    let s = st a.s a.rx.now a.msg.now in
    reported s _ c.in_default.ensures (λ (p : Pending). fault_at p s a.e) c.in-Writing.is
    c.write_fault.ensures

pub returns-in-Closing : goal.returns-in-Closing
unfolding report_fault fault_at
returns-in-Closing c =
    let a = c.args in
    let s = st a.s a.rx.now a.msg.now in
    reported s _ c.in_default.ensures (λ (p : Pending). fault_at p s a.e) c.in-Closing.is
    (c.close.ensures _ _ ∙ ap (closed_out s c.in-Closing.failed c.in-Closing.code) c.fault_answer.ensures)

pub returns-in-Idle : goal.returns-in-Idle
unfolding report_fault fault_at
returns-in-Idle c =
    let a = c.args in
    let s = st a.s a.rx.now a.msg.now in
    reported s _ c.in_default.ensures (λ (p : Pending). fault_at p s a.e) c.in-Idle.is
    (out_eq _ _ c.misused-in-Idle.ensures)
