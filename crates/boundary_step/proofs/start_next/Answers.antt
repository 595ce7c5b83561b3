-- `boundary_step::start_next` meets its contract: a step that was taken at once is its crossing, and one that was not has altered nothing.
--
use mathlib.Core.Path.{ap, ◌∙◌}
use Rattle.fast_replies.proofs.Taken.{was_taken, was_left}
use Rattle.boundary_step.proofs.Again.{start_again}
use Rattle.boundary_step.proofs.start_next.Goals as goal

pub returns-then-next : goal.returns-then-next
returns-then-next c =
    let a = c.args in
    was_taken _ _ _ _ _ (c.next.ensures a.a a.b) c.if-next.true

pub returns : goal.returns
returns c =
    let a = c.args in
    c.slow_start.ensures
    ∙ ap (start_again a.lent.now a.call a.a a.b) (was_left _ _ _ _ _ (c.next.ensures a.a a.b) c.if-next.false)
