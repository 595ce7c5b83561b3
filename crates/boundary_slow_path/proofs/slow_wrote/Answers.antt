-- Answers to goals of `boundary_slow_path::slow_wrote`.
use Rattle.boundary.specs.Crossing.{cross_wrote}
use Rattle.session.specs.Reports.{report_wrote}
use Rattle.boundary_slow_path.proofs.Crossings.{cross_back}
use Rattle.boundary_slow_path.proofs.slow_wrote.Goals as goal

pub returns : goal.returns
unfolding cross_wrote
returns c =
    let a = c.args in
    cross_back _ _ _ _ (λ s. report_wrote s a.lent.now) _ c.in-Some.ensures _ c.wrote.ensures _ (c.give_back.ensures _ _)
