-- Answers to goals of `calendar_date::month_of`.
use mathlib.Core.Path.{◌≡◌, refl, sym, ◌∙◌}
use native.Mathlib.Omega.{arith}
use Rattle.calendar_date.proofs.Laws.{month-in, month-on, month-last}
use Rattle.calendar_date.proofs.month_of.Goals as goal

pub loop-month-init : goal.loop-month-init
loop-month-init c = (omega arith, refl)

pub returns-then-day-length : goal.returns-then-day-length
returns-then-day-length c =
    let e = c.month_length-length.ensures in
    sym (month-in c.args.year c.loop-month.month c.loop-month.day (omega arith) (omega arith)) ∙ c.loop-month.invariant.1

pub loop-month-preserved : goal.loop-month-preserved
loop-month-preserved c =
    let e = c.month_length-length.ensures in
    (omega arith, rw e (sym (month-on c.args.year c.loop-month.month c.loop-month.day (omega arith) (omega arith)) ∙ c.loop-month.invariant.1))

pub returns : goal.returns
returns c =
    let l = c.loop-month in
    let e : l.month ≡ 12 = omega arith in
    sym (month-last c.args.year 12 l.day (omega arith)) ∙ (rw e at l.invariant.1)
