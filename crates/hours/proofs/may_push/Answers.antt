-- `hours::may_push` meets its contract.
use mathlib.Core.Path.{sym, ◌∙◌}
use borrow.Author.Tests.{eq-eqb, ne_eqb}
use Rattle.hours.specs.Settings.{cross_may_push}
use Rattle.hours.proofs.may_push.Goals as goal

pub returns-then-settings-ne-SETTINGS : goal.returns-then-settings-ne-SETTINGS
unfolding cross_may_push
returns-then-settings-ne-SETTINGS c = rw (ne_eqb _ _ c.if-settings-ne-SETTINGS.true)

pub returns-then-not-is_hours : goal.returns-then-not-is_hours
unfolding cross_may_push
returns-then-not-is_hours c =
    let bad = sym c.is_hours.ensures ∙ c.if-not-is_hours.true in
    rw (eq-eqb _ _ c.if-settings-ne-SETTINGS.false, bad)

pub returns-then-not-lets_at : goal.returns-then-not-lets_at
unfolding cross_may_push
returns-then-not-lets_at c =
    let good = sym c.is_hours.ensures ∙ c.if-not-is_hours.false in
    let shut = sym c.lets_at.ensures ∙ c.if-not-lets_at.true in
    rw (eq-eqb _ _ c.if-settings-ne-SETTINGS.false, good, shut)

pub returns : goal.returns
unfolding cross_may_push
returns c =
    let good = sym c.is_hours.ensures ∙ c.if-not-is_hours.false in
    let free = sym c.lets_at.ensures ∙ c.if-not-lets_at.false in
    rw (eq-eqb _ _ c.if-settings-ne-SETTINGS.false, good, free)
