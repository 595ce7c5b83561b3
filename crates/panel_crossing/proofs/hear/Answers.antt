-- `panel_crossing::hear` meets its contract.
use mathlib.Core.Path.{ap, ◌∙◌}
use borrow.Author.Tests.{lt-ltb}
use Rattle.id_table.specs.Refusal.{lent_of}
use Rattle.panel_side.specs.Crossing.{sliced, cross_heard}
use Rattle.panel_crossing.proofs.Laws.{hears_by}
use Rattle.panel_crossing.proofs.hear.Goals as goal

pub returns-then-out-lt-REPLY : goal.returns-then-out-lt-REPLY
unfolding cross_heard
returns-then-out-lt-REPLY c = rw (lt-ltb _ _ c.if-out-lt-REPLY.true)

pub returns-in-Err : goal.returns-in-Err
returns-in-Err c =
    let a = c.args in
    ap (sliced a.out.now) c.number.ensures
    ∙ hears_by a.settings.now c.table_in.ensures (ap lent_of c.in-Err.is) a.bytes.now a.out.now c.if-out-lt-REPLY.false

pub returns-in-Ok : goal.returns-in-Ok
returns-in-Ok c =
    let a = c.args in
    c.hear_request.ensures
    ∙ hears_by a.settings.now c.table_in.ensures (ap lent_of c.in-Ok.is) a.bytes.now a.out.now c.if-out-lt-REPLY.false
