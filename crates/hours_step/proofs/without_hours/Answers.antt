-- `hours_step::without_hours` meets its contract.
use mathlib.Core.Path.{sym, ap, ◌∙◌}
use borrow.Author.Tests.{lt-ltb}
use Rattle.id_table.specs.Refusal.{lent_of}
use Rattle.session.proofs.Refused.{some-number}
use Rattle.hours_step.specs.Opening.{refused_table, refused_anyway}
use Rattle.hours_step.proofs.without_hours.Goals as goal

pub returns-in-Err : goal.returns-in-Err
unfolding refused_anyway
returns-in-Err c = rw (← c.in-Err.ensures, lt-ltb 0 _ (some-number c.in-Err.misuse)) c.number.ensures

pub returns-in-Err-table_in : goal.returns-in-Err-table_in
unfolding refused_anyway
returns-in-Err-table_in c = rw (← c.in_default.ensures) (c.number-in-Err-table_in.ensures ∙ ap refused_table (ap lent_of (sym c.in-Err-table_in.is) ∙ c.table_in.ensures))

pub returns-in-Ok : goal.returns-in-Ok
unfolding refused_anyway
returns-in-Ok c = rw (← c.in_default.ensures) (ap refused_table (ap lent_of (sym c.in-Ok.is) ∙ c.table_in.ensures))
