-- `fast_read::short_tail` meets its contract.
use mathlib.Core.Path.{sym, ap, ◌∙◌}
use native.Mathlib.Omega.{arith}
use Rattle.record.specs.Record.{loaded}
use Rattle.fast_record.proofs.Found.{found_none}
use Rattle.fast_record.specs.Found.{found}
use Rattle.fast_record.proofs.Laws.{stands_of}
use Rattle.fast_read.proofs.Laws.{unfit, awaits_other, lent_other, awaits_read_lem}
use Rattle.fast_read.proofs.short_tail.Goals as goal

pub returns-then-number-lt-STAT_HEADER : goal.returns-then-number-lt-STAT_HEADER
returns-then-number-lt-STAT_HEADER c =
    let a = c.args in
    found_none (grind (arith, awaits_other a.rec.now a.rx a.msg a.lent a.n, unfit a.rx a.msg a.lent a.n (loaded a.rec.now), lent_other a.rec.now a.rx a.msg a.lent a.n, stands_of a.rec.now a.rx a.msg))

pub returns : goal.returns
returns c =
    let a = c.args in
    let h = stands_of a.rec.now a.rx a.msg (sym c.stands.ensures ∙ c.if-not-stands.false) in
    c.tail_at.ensures ∙ ap found
    (awaits_read_lem a.rec.now a.rx a.msg a.lent a.n h (omega arith) (omega arith) _ _ _ c.number-2.ensures c.number-3.ensures c.number-4.ensures)
