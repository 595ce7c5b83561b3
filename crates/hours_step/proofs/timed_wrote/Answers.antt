-- `hours_step::timed_wrote` meets its contract.
use mathlib.Core.Path.{sym}
use native.Mathlib.Omega.{arith}
use lib.Seq.{length-take-le}
use Rattle.hours_totals.specs.Crossing.{timed_wrote}
use Rattle.totals.specs.Crossing.{record_size}
use Rattle.hours_step.proofs.Steps.{other_length, inside}
use Rattle.hours_step.proofs.timed_wrote.Goals as goal

pub returns-then-rec-ne-TIMED : goal.returns-then-rec-ne-TIMED
unfolding timed_wrote
returns-then-rec-ne-TIMED c = other_length _ _ _ _ _ c.if-rec-ne-TIMED.true c.refused.ensures

pub slice_bounds-total_wrote-end-2 : goal.slice_bounds-total_wrote-end-2
slice_bounds-total_wrote-end-2 c = sym (length-take-le record_size c.args.rec.now (omega arith))

pub returns : goal.returns
unfolding timed_wrote
returns c =
    let a = c.args in
    inside a.rec.now a.rx.now a.msg.now a.out.now c.if-rec-ne-TIMED.false _ c.total_wrote.ensures
