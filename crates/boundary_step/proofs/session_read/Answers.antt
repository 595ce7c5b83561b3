-- `boundary_step::session_read` meets its contract: a step that was taken at once is its crossing, and one that was not has altered nothing.
--
use mathlib.Core.Path.{ap, ◌∙◌}
use Rattle.boundary.specs.Crossing.{Crossed, cross_read}
use Rattle.fast_replies.proofs.Taken.{was_taken, was_left}
use Rattle.boundary_step.proofs.session_read.Goals as goal

pub returns-then-stat : goal.returns-then-stat
returns-then-stat c = was_taken _ _ _ _ _ c.stat.ensures c.if-stat.true

pub returns : goal.returns
returns c =
    let a = c.args in
    c.read_short.ensures
    ∙ ap (λ (x : Crossed). cross_read x.rec x.rx x.msg a.lent.now a.count x.out) (was_left _ _ _ _ _ c.stat.ensures c.if-stat.false)
