-- `panel_crossing::say` meets its contract.
use mathlib.Core.Path.{ap, ◌∙◌}
use borrow.Author.Tests.{lt-ltb}
use Rattle.id_table.specs.Refusal.{lent_of}
use Rattle.panel_side.specs.Crossing.{spoke, cross_speak}
use Rattle.panel_crossing.proofs.Laws.{speaks-by}
use Rattle.panel_crossing.proofs.say.Goals as goal

pub returns-then-told-lt-REPLY : goal.returns-then-told-lt-REPLY
unfolding cross_speak
returns-then-told-lt-REPLY c = rw (lt-ltb _ _ c.if-told-lt-REPLY.true)

pub returns-in-Err : goal.returns-in-Err
returns-in-Err c =
    let a = c.args in
    ap (spoke a.out.now a.told.now) c.number.ensures
    ∙ speaks-by a.settings.now c.table_in.ensures (ap lent_of c.in-Err.is) a.kind a.numbers.now a.lent.now a.out.now a.told.now c.if-told-lt-REPLY.false

pub returns-in-Ok : goal.returns-in-Ok
returns-in-Ok c =
    let a = c.args in
    c.say_numbered.ensures
    ∙ speaks-by a.settings.now c.table_in.ensures (ap lent_of c.in-Ok.is) a.kind a.numbers.now a.lent.now a.out.now a.told.now c.if-told-lt-REPLY.false
