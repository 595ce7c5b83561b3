-- Answers to goals of `calendar_date::year_of`.
use mathlib.Core.Path.{refl, sym, ◌∙◌}
use native.Mathlib.Omega.{arith}
use Rattle.calendar.specs.Calendar.{date_of}
use Rattle.calendar.proofs.Calendar.{year-least, year-most}
use Rattle.calendar_date.proofs.Laws.{year-in, year-on}
use Rattle.calendar_date.proofs.year_of.Goals as goal

pub loop-length-init : goal.loop-length-init
unfolding date_of
loop-length-init c = (c.year_length-length.ensures, (omega arith, refl))

pub overflow_add-year : goal.overflow_add-year
overflow_add-year c = omega arith

pub loop-length-smaller : goal.loop-length-smaller
loop-length-smaller c = let i = c.loop-length.invariant in omega (arith, year-least c.loop-length.year)

pub loop-length-preserved : goal.loop-length-preserved
loop-length-preserved c =
    let l = c.loop-length in
    let i = l.invariant in
    (c.year_length-length-in-loop-length.ensures, (omega (arith, year-least l.year), rw i.0 (sym (year-on l.year l.day (omega arith)) ∙ i.1.1)))

pub returns : goal.returns
returns c =
    let l = c.loop-length in
    let i = l.invariant in
    (sym (year-in l.year l.day (omega arith)) ∙ i.1.1, omega (arith, year-most l.year))
