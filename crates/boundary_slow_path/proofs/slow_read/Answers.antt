-- Answers to goals of `boundary_slow_path::slow_read`.
use Rattle.std.proofs.Common.{length}
use Rattle.boundary_slow_path.specs.Slow.{slow_read}
use Rattle.session.specs.Reports.{report_read}
use Rattle.boundary_slow_path.proofs.Crossings.{cross_back}
use Rattle.boundary_slow_path.proofs.slow_read.Goals as goal

pub returns : goal.returns
unfolding slow_read
returns c =
    let a = c.args in
    cross_back _ _ _ _ (λ s. report_read s (length a.lent.now) a.count) _ c.in-Some.ensures _ c.read.ensures _ (c.give_back.ensures _ _)
