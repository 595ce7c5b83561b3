-- `hours_step::turned_away` meets its contract.
use mathlib.Core.Bool.{and-true, and-false}
use mathlib.Core.Path.{sym}
use native.Mathlib.Omega.{arith}
use lib.Dec.{leb}
use lib.Seq.{length-take-le}
use Rattle.record.specs.Record.{size}
use Rattle.boundary.specs.Told.{out_size}
use Rattle.hours_step.proofs.turned_away.Goals as goal

pub slice_bounds-takes_push-end : goal.slice_bounds-takes_push-end
slice_bounds-takes_push-end c = sym (length-take-le size c.args.rec.now (omega arith))

pub returns-then-takes_push : goal.returns-then-takes_push
returns-then-takes_push c =
    let a = c.args in
    rw (sym c.outside.ensures, c.if-outside.true, sym c.takes_push.ensures, c.if-takes_push.true) (sym (and-true (leb out_size a.out)))

pub returns-then-outside : goal.returns-then-outside
returns-then-outside c =
    let a = c.args in
    rw (sym c.outside.ensures, c.if-outside.true, sym c.takes_push.ensures, c.if-takes_push.false) (sym (and-false (leb out_size a.out)))

pub returns : goal.returns
returns c = rw (sym c.outside.ensures, c.if-outside.false)
