-- `hours::lets_at` meets its contract.
use mathlib.Core.Path.{sym, ◌∙◌}
use borrow.Author.Rules.{rules}
use borrow.Author.Tests.{lt-leb, le-leb}
use Rattle.hours.proofs.Days.{lets_by, lets-none}
use Rattle.hours.proofs.lets_at.Goals as goal

pub returns-then-bytes-eq0 : goal.returns-then-bytes-eq0
returns-then-bytes-eq0 c = let a = c.args in sym (lets-none a.bytes.now a.moment c.if-bytes-eq0.true)

pub returns-else-word-minute : goal.returns-else-word-minute
returns-else-word-minute c =
    let a = c.args in
    let by = lets_by a.bytes.now a.moment (λ i. (c.type_inv.bytes i).fits) (search rules) c.if-bytes-eq0.false in
    sym (by ∙ rw (← c.u32_at-word.ensures, lt-leb _ _ c.if-word-minute.false))

pub returns-then-word-minute : goal.returns-then-word-minute
returns-then-word-minute c =
    let a = c.args in
    let by = lets_by a.bytes.now a.moment (λ i. (c.type_inv.bytes i).fits) (search rules) c.if-bytes-eq0.false in
    sym (by ∙ rw (← c.u32_at-word.ensures, le-leb _ _ c.if-word-minute.true))
