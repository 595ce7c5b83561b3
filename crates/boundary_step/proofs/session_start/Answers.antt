-- `boundary_step::session_start` meets its contract: a step that was taken at once is its crossing, and one that was not has altered nothing.
--
use mathlib.Core.Path.{ap, ◌∙◌}
use Rattle.fast_replies.proofs.Taken.{was_taken, was_left}
use Rattle.boundary_step.proofs.Again.{start_again}
use Rattle.boundary_step.proofs.session_start.Goals as goal

pub returns-then-entry : goal.returns-then-entry
returns-then-entry c =
    let a = c.args in
    was_taken _ _ _ _ _ (c.entry.ensures a.a a.b) c.if-entry.true

pub returns-then-request : goal.returns-then-request
returns-then-request c =
    let a = c.args in
    was_taken _ _ _ _ _ (c.request.ensures a.a a.b) c.if-request.true
    ∙ ap (start_again a.lent.now a.call a.a a.b) (was_left _ _ _ _ _ (c.entry.ensures a.a a.b) c.if-entry.false)

pub returns : goal.returns
returns c =
    let a = c.args in
    c.start_next.ensures
    ∙ ap (start_again a.lent.now a.call a.a a.b) (was_left _ _ _ _ _ (c.request.ensures a.a a.b) c.if-request.false)
    ∙ ap (start_again a.lent.now a.call a.a a.b) (was_left _ _ _ _ _ (c.entry.ensures a.a a.b) c.if-entry.false)
