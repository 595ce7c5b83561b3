-- `boundary_step::read_met` meets its contract: a step that was taken at once is its crossing, and one that was not has altered nothing.
--
use mathlib.Core.List.{List}
use mathlib.Core.Path.{refl, ap, ◌∙◌}
use Prim.Native.Nat.{ℕ}
use Rattle.boundary.specs.Crossing.{Crossed}
use Rattle.fast_replies.proofs.Taken.{was_taken, was_left}
use Rattle.boundary_slow_path.specs.Slow.{slow_read}
use Rattle.boundary_step.proofs.Reading.{slow_read_lem}
use Rattle.boundary_step.proofs.Again.{read_again}
use Rattle.boundary_step.proofs.read_met.Goals as goal

abbrev slow_of : List ℕ → ℕ → Crossed → Crossed
slow_of lent k x = slow_read x.rec x.rx x.msg lent k x.out

pub returns-then-body : goal.returns-then-body
returns-then-body c = was_taken _ _ _ _ _ c.body.ensures c.if-body.true

pub returns-then-header : goal.returns-then-header
returns-then-header c =
    let a = c.args in
    was_taken _ _ _ _ _ c.header.ensures c.if-header.true
    ∙ ap (read_again a.lent.now a.count) (was_left _ _ _ _ _ c.body.ensures c.if-body.false)

pub returns : goal.returns
returns c =
    let a = c.args in
    c.slow_read.ensures
    ∙ ap (slow_of a.lent.now a.count) (was_left _ _ _ _ _ c.header.ensures c.if-header.false)
    ∙ ap (slow_of a.lent.now a.count) (was_left _ _ _ _ _ c.body.ensures c.if-body.false)
    ∙ slow_read_lem a.rec.now a.rx.now a.msg.now a.lent.now a.out.now a.count 0 c.requires refl
