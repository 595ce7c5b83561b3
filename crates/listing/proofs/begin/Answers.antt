-- `listing::begin` meets its contract.
use mathlib.Core.Path.{sym, ap, ◌∙◌}
use Rattle.session.specs.Reports.{report_read}
use Rattle.session.specs.State.{Out}
use Rattle.listing.proofs.Steps.{first-none, first_some}
use Rattle.listing.proofs.begin.Goals as goal

pub returns-then-n-eq0 : goal.returns-then-n-eq0
returns-then-n-eq0 c = c.next_entry-asked.ensures ∙ sym (first-none _ _ c.if-n-eq0.true)

pub returns : goal.returns
returns c =
    let a = c.args in
    c.read.ensures
    ∙ ap (λ (o : Out). report_read o.st 0 a.n) c.next_entry-asked.ensures
    ∙ sym (first_some _ _ c.if-n-eq0.false)
