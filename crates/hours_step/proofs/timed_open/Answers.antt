-- `hours_step::timed_open` meets its contract.
use mathlib.Core.Path.{sym, ◌∙◌}
use native.Mathlib.Omega.{arith}
use lib.Seq.{length-take-le}
use Rattle.totals.specs.Crossing.{record_size}
use Rattle.hours_step.proofs.Opening.{open_other, open_refused_lem, open_in, open_lacking, sized}
use Rattle.hours_step.proofs.timed_open.Goals as goal

pub returns-then-rec-ne-TIMED : goal.returns-then-rec-ne-TIMED
returns-then-rec-ne-TIMED c =
    let a = c.args in
    open_other a.rec.now a.settings.now a.banner.now a.rx a.msg c.if-rec-ne-TIMED.true c.total_open.ensures

pub returns-then-lacks_hours : goal.returns-then-lacks_hours
returns-then-lacks_hours c =
    let a = c.args in
    open_lacking a.rec.now a.settings.now a.banner.now a.rx a.msg c.if-rec-ne-TIMED.false (sym c.lacks_hours.ensures ∙ c.if-lacks_hours.true) c.without_hours.ensures

pub slice_bounds-total_open-end-3 : goal.slice_bounds-total_open-end-3
slice_bounds-total_open-end-3 c = sym (length-take-le record_size c.args.rec.now (omega arith))

pub slice_bounds-put_bytes-end : goal.slice_bounds-put_bytes-end
slice_bounds-put_bytes-end c =
    let a = c.args in
    let s = sized a.rec.now a.settings.now a.banner.now a.rx a.msg c.if-rec-ne-TIMED.false c.total_open-n.ensures c.if-n-eq0.true in
    omega (arith, s)

pub returns-then-n-eq0 : goal.returns-then-n-eq0
returns-then-n-eq0 c =
    let a = c.args in
    open_in a.rec.now a.settings.now a.banner.now a.rx a.msg c.if-rec-ne-TIMED.false c.total_open-n.ensures c.if-n-eq0.true
    (c.total_open-n.auto.rec ∙ length-take-le record_size a.rec.now (omega (arith, c.if-rec-ne-TIMED.false)))
    (sym c.lacks_hours.ensures ∙ c.if-lacks_hours.false) c.put_bytes.ensures

pub returns : goal.returns
returns c =
    let a = c.args in
    open_refused_lem a.rec.now a.settings.now a.banner.now a.rx a.msg c.if-rec-ne-TIMED.false c.total_open-n.ensures c.if-n-eq0.false
