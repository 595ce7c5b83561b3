-- `boundary_step::wrote_data` meets its contract: a step that was taken at once is its crossing, and one that was not has altered nothing.
--
use mathlib.Core.Path.{ap, ◌∙◌}
use Rattle.fast_replies.proofs.Taken.{was_taken, was_left}
use Rattle.boundary_step.proofs.Again.{wrote_again}
use Rattle.boundary_step.proofs.wrote_data.Goals as goal

pub returns-then-part_out : goal.returns-then-part_out
returns-then-part_out c = was_taken _ _ _ _ _ c.part_out.ensures c.if-part_out.true

pub returns-then-header_out : goal.returns-then-header_out
returns-then-header_out c =
    let a = c.args in
    was_taken _ _ _ _ _ c.header_out.ensures c.if-header_out.true
    ∙ ap (wrote_again a.lent.now) (was_left _ _ _ _ _ c.part_out.ensures c.if-part_out.false)

pub returns-then-whole_out : goal.returns-then-whole_out
returns-then-whole_out c =
    let a = c.args in
    was_taken _ _ _ _ _ c.whole_out.ensures c.if-whole_out.true
    ∙ ap (wrote_again a.lent.now) (was_left _ _ _ _ _ c.header_out.ensures c.if-header_out.false)
    ∙ ap (wrote_again a.lent.now) (was_left _ _ _ _ _ c.part_out.ensures c.if-part_out.false)

pub returns : goal.returns
returns c =
    let a = c.args in
    c.slow_wrote.ensures
    ∙ ap (wrote_again a.lent.now) (was_left _ _ _ _ _ c.whole_out.ensures c.if-whole_out.false)
    ∙ ap (wrote_again a.lent.now) (was_left _ _ _ _ _ c.header_out.ensures c.if-header_out.false)
    ∙ ap (wrote_again a.lent.now) (was_left _ _ _ _ _ c.part_out.ensures c.if-part_out.false)
