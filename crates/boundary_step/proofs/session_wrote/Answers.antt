-- `boundary_step::session_wrote` meets its contract: a step that was taken at once is its crossing, and one that was not has altered nothing.
--
use mathlib.Core.Path.{ap, ◌∙◌}
use Rattle.boundary.specs.Crossing.{Crossed, cross_wrote}
use Rattle.fast_replies.proofs.Taken.{was_taken, was_left}
use Rattle.boundary_step.proofs.session_wrote.Goals as goal

pub returns-then-sent : goal.returns-then-sent
returns-then-sent c = was_taken _ _ _ _ _ c.sent.ensures c.if-sent.true

pub returns : goal.returns
returns c =
    let a = c.args in
    c.wrote_data.ensures
    ∙ ap (λ (x : Crossed). cross_wrote x.rec x.rx x.msg a.lent.now x.out) (was_left _ _ _ _ _ c.sent.ensures c.if-sent.false)
