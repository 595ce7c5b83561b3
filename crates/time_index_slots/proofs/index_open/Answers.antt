-- `time_index_slots::index_open` meets its contract.
use mathlib.Core.List.{List}
use mathlib.Core.Path.{ap, ◌∙◌}
use Prim.Native.Nat.{ℕ}
use native.Mathlib.Omega.{arith}
use borrow.Author.Tests.{eq-eqb, ne_eqb}
use Rattle.protocol.proofs.Bytes.{put_in}
use Rattle.time_index.specs.Slots.{headed}
use Rattle.time_index.specs.Crossing.{laid, cross_index_open}
use Rattle.time_index_slots.proofs.index_open.Goals as goal

pub returns-then-slots-ne-SLOTS : goal.returns-then-slots-ne-SLOTS
unfolding cross_index_open
returns-then-slots-ne-SLOTS c = rw (ne_eqb _ _ c.if-slots-ne-SLOTS.true)

pub returns : goal.returns
unfolding cross_index_open
returns c =
    let a = c.args in
    rw (eq-eqb _ _ c.if-slots-ne-SLOTS.false)
    (ap (λ (l : List ℕ). laid l 0) (c.put_u64s.ensures ∙ put_in a.slots.now 0 (headed a.area 0 0) (omega arith)))
