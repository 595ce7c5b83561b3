-- `totals_step::total_open` meets its contract.
use Rattle.std.proofs.Common.{drop, sym, ◌∙◌, arith, length-drop, length-take-le}
use Rattle.record.specs.Record.{size}
use Rattle.totals_step.proofs.Behind.{put-none}
use Rattle.totals_step.proofs.Opening.{open_other, open_refused_lem, open_in, open_none}
use Rattle.totals_step.proofs.total_open.Goals as goal

pub returns-then-rec-ne-CARD : goal.returns-then-rec-ne-CARD
returns-then-rec-ne-CARD c =
    let a = c.args in
    open_other a.rec.now a.settings.now a.banner.now a.rx a.msg c.if-rec-ne-CARD.true c.session_open.ensures

pub slice_bounds-session_open-end-3 : goal.slice_bounds-session_open-end-3
slice_bounds-session_open-end-3 c = sym (length-take-le size c.args.rec.now (omega arith))

pub returns-then-n-eq0 : goal.returns-then-n-eq0
returns-then-n-eq0 c =
    let a = c.args in
    let rec = a.rec.now in
    let zero = c.if-n-eq0.true in
    open_in rec a.settings.now a.banner.now a.rx a.msg c.if-rec-ne-CARD.false c.session_open-n.ensures zero
    (put-none c.session_open-n.new.rec (drop size rec) (c.session_open-n.auto.rec ∙ length-take-le size rec (omega arith)) (omega (arith, length-drop size rec))
    (open_none rec a.settings.now a.banner.now a.rx a.msg c.if-rec-ne-CARD.false c.session_open-n.ensures zero)
    c.put_u64s.ensures c.put_u64.ensures)

pub returns : goal.returns
returns c =
    let a = c.args in
    open_refused_lem a.rec.now a.settings.now a.banner.now a.rx a.msg c.if-rec-ne-CARD.false c.session_open-n.ensures c.if-n-eq0.false
