-- `request_reader::words_refused` meets its contract.
use mathlib.Core.Path.{sym, ◌∙◌}
use borrow.Author.Rules.{rules}
use Rattle.request_reader.proofs.Parts.{inner-same, inner-other}
use Rattle.request_reader.proofs.words_refused.Goals as goal

pub returns-then-inner-own : goal.returns-then-inner-own
returns-then-inner-own c =
    let a = c.args in
    let other = inner-other a.s.now a.at (λ i. (c.type_inv.s i).fits) c.requires.0 c.requires.1 in
    let differ = c.if-inner-own.true in
    rw (other (λ e. differ (c.u32_at-inner.ensures ∙ e ∙ sym c.u32_at-own.ensures))) (search rules)

pub returns-else-inner-own : goal.returns-else-inner-own
returns-else-inner-own c =
    let a = c.args in
    let same = inner-same a.s.now a.at (λ i. (c.type_inv.s i).fits) c.requires.0 c.requires.1 in
    rw (same (sym c.u32_at-inner.ensures ∙ c.if-inner-own.false ∙ c.u32_at-own.ensures)) c.refused.ensures
