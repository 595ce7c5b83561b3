-- `time_index_slots::index_add` meets its contract.
use mathlib.Core.Bool.{true, ◌&&◌}
use mathlib.Core.Path.{◌≡◌, sym, ap, ◌∙◌}
use Rattle.std.specs.Prelude.{Ok, None}
use native.Mathlib.Omega.{arith}
use lib.Dec.{leb}
use lib.ListN.{length}
use Rattle.boundary.specs.Told.{out_size}
use Rattle.time_index.specs.Slots.{is_index}
use Rattle.time_index.specs.Crossing.{added}
use Rattle.time_index_offers.specs.Offers.{Inside}
use Rattle.time_index_slots.proofs.Laws.{add_refused, add_offered, add_part, still-index}
use Rattle.time_index_slots.proofs.index_add.Goals.{Else-not-is_answered}
use Rattle.time_index_slots.proofs.index_add.Goals as goal

-- it is answered, of an index
answered : (c : Else-not-is_answered)
    → is_index c.args.slots.now (length c.args.area.now)
    && leb out_size (length c.args.reply.now) ≡ true
answered c = sym c.is_answered.ensures ∙ c.if-not-is_answered.false

pub returns-then-not-is_answered : goal.returns-then-not-is_answered
returns-then-not-is_answered c =
    let a = c.args in
    add_refused a.slots.now a.area.now a.told a.reply.now a.rx.now (sym c.is_answered.ensures ∙ c.if-not-is_answered.true)

pub returns-in-Ok-None : goal.returns-in-Ok-None
unfolding added
returns-in-Ok-None c =
    let a = c.args in
    add_offered a.slots.now a.area.now a.told a.reply.now a.rx.now (answered (goal.at.returns-in-Ok-None c).Else-not-is_answered) _ c.offered_by.ensures.0 (Ok None)
    (c.in-Ok-None.is ∙ ap Ok c.in-Ok-None.field-0-is)

pub returns-in-Err : goal.returns-in-Err
unfolding added
returns-in-Err c =
    let a = c.args in
    add_offered a.slots.now a.area.now a.told a.reply.now a.rx.now (answered (goal.at.returns-in-Err c).Else-not-is_answered) _ c.offered_by.ensures.0 _ c.in-Err.is

pub returns-in-Ok-Some : goal.returns-in-Ok-Some
returns-in-Ok-Some c =
    let a = c.args in
    c.take_entry.ensures
    ∙ add_part a.slots.now a.area.now a.told a.reply.now a.rx.now (answered (goal.at.returns-in-Ok-Some c).Else-not-is_answered) _ c.offered_by.ensures.0 _
    (c.in-Ok-Some.is ∙ ap Ok c.in-Ok-Some.field-0-is)
