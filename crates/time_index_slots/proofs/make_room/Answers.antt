-- Answers to goals of `time_index_slots::make_room`.
use mathlib.Core.Path.{◌≡◌, refl, sym, ◌∙◌}
use native.Mathlib.Omega.{arith}
use borrow.Author.Rules.{rules}
use lib.ListN.{length-set}
use Rattle.time_index_slots.proofs.Laws.{moved_none, moved-next}
use Rattle.time_index_slots.proofs.make_room.Goals as goal

pub loop-at-init : goal.loop-at-init
loop-at-init c = (search rules, refl, sym (moved_none _ _))

pub loop-at-preserved : goal.loop-at-preserved
loop-at-preserved c =
    let a = c.args in
    let e = moved-next a.slots.now c.loop-at.at a.to (omega arith) (omega arith) (omega arith) in
    (omega arith, length-set c.loop-at.slots _ _ ∙ c.loop-at.invariant.1, rw c.loop-at.invariant.2 e)

pub returns : goal.returns
returns c =
    let a = c.args in
    let e : c.loop-at.at ≡ a.from = omega arith in
    c.loop-at.invariant.2 ∙ rw e
