-- `hours_step::timed_start` meets its contract: 25 is tested ahead of the step, and nothing is altered by it.
use Prim.Native.Nat.{ℕ}
use mathlib.Core.Bool.{not}
use mathlib.Core.List.{List}
use mathlib.Core.Path.{◌≡◌, sym, ap, ◌∙◌}
use native.Mathlib.Omega.{arith}
use lib.ListN.{take}
use lib.Seq.{length-take-le}
use Rattle.boundary.specs.Crossing.{Crossed}
use Rattle.protocol.specs.Hours.{lets}
use Rattle.hours_totals.specs.Crossing.{hours_at, timed_start}
use Rattle.totals.specs.Crossing.{record_size, counted, total_start}
use Rattle.hours_step.proofs.Steps.{other_length, test, let_in, closed, tested}
use Rattle.hours_step.proofs.timed_start.Goals.{After-turned_away}
use Rattle.hours_step.proofs.timed_start.Goals as goal

-- the step of the session inside, and what was tested ahead of it
abbrev inner : (rec rx msg lent out : List ℕ) (call a b : ℕ) → Crossed
inner rec rx msg lent out call a b = total_start (take record_size rec) rx msg lent call a b out

is-tested : (c : After-turned_away)
    → (let a = c.args in
    c.turned_away.result
    ≡ test a.rec.now a.rx.now a.msg.now a.out.now c.if-rec-ne-TIMED.false (inner a.rec.now a.rx.now a.msg.now a.lent.now a.out.now a.call a.a a.b) a.call a.moment)
is-tested c =
    let a = c.args in
    c.turned_away.ensures
    ∙ tested a.rec.now a.rx.now a.msg.now a.lent.now a.out.now a.call a.a a.b c.if-rec-ne-TIMED.false (λ i. (c.slice_known-1.given i).fits)
    (λ i. (c.slice_known-2-1.given i).fits) (omega arith) (omega arith) (omega arith) (omega arith) (not (lets (hours_at a.rec.now) a.moment))

pub returns-then-rec-ne-TIMED : goal.returns-then-rec-ne-TIMED
unfolding timed_start
returns-then-rec-ne-TIMED c = other_length _ _ _ _ _ c.if-rec-ne-TIMED.true c.refused.ensures

pub returns-then-turned_away : goal.returns-then-turned_away
unfolding timed_start
returns-then-turned_away c =
    let a = c.args in
    let r = c.refused-then-turned_away.ensures in
    closed a.rec.now a.rx.now a.msg.now a.out.now c.if-rec-ne-TIMED.false (inner a.rec.now a.rx.now a.msg.now a.lent.now a.out.now a.call a.a a.b) a.call a.moment
    (sym (is-tested (goal.at.returns-then-turned_away c).After-turned_away) ∙ c.if-turned_away.true)
    (r.0, r.1 ∙ ap (counted 6400 0) c.put_u64s.ensures)

pub slice_bounds-total_start-end-2 : goal.slice_bounds-total_start-end-2
slice_bounds-total_start-end-2 c = sym (length-take-le record_size c.args.rec.now (omega arith))

pub returns : goal.returns
unfolding timed_start
returns c =
    let a = c.args in
    let_in a.rec.now a.rx.now a.msg.now a.out.now c.if-rec-ne-TIMED.false (inner a.rec.now a.rx.now a.msg.now a.lent.now a.out.now a.call a.a a.b) a.call a.moment
    (sym (is-tested (goal.at.returns c).After-turned_away) ∙ c.if-turned_away.false) c.total_start.ensures
