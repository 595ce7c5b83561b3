-- Answers to goals of `boundary_slow_path::slow_fault`.
use Rattle.std.proofs.Common.{length, ap, ◌∙◌}
use Rattle.boundary.specs.Crossing.{fault_numbered, cross_fault}
use Rattle.session.specs.Reports.{report_fault}
use Rattle.boundary_slow_path.proofs.Crossings.{cross_back}
use Rattle.boundary_slow_path.proofs.slow_fault.Goals as goal

pub returns : goal.returns
unfolding cross_fault
returns c =
    let a = c.args in
    cross_back _ _ _ _ (λ s. report_fault s (length a.lent.now) (fault_numbered a.kind a.code)) _ c.in-Some.ensures _ (c.fault.ensures ∙ ap (report_fault _ _) c.fault_of.ensures) _ (c.give_back.ensures _ _)
