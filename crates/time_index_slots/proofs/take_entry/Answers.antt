-- `time_index_slots::take_entry` meets its contract.
use mathlib.Core.Path.{◌≡◌, ap, ap₂, ◌∙◌}
use mathlib.Core.List.{List}
use Prim.Native.Nat.{ℕ, ◌≤◌}
use native.Mathlib.Omega.{arith}
use lib.ListN.{length}
use Rattle.protocol.specs.Bytes.{over}
use Rattle.protocol.proofs.Bytes.{put_in}
use Rattle.time_index.specs.Slots.{count_in, used_in}
use Rattle.time_index.specs.Crossing.{indexed, added}
use Rattle.time_index_slots.proofs.Laws.{Index, index_in, count-read, used_read, slot_none, room-none, slot_some}
use Rattle.time_index_slots.proofs.take_entry.Goals.{After-room_in, After-u64_at-n, After-u64_at-used, Start}
use Rattle.time_index_slots.proofs.take_entry.Goals as goal

held : (c : Start) → Index c.args.slots.now (length c.args.area.now)
held c = index_in c.args.slots.now (length c.args.area.now) c.requires

-- the two counts, as they were read
count : (c : After-u64_at-n) → c.u64_at-n.result ≡ count_in c.args.slots.now
count c = count-read _ _ (index_in c.args.slots.now (length c.args.area.now) c.requires) c.u64_at-n.ensures

names : (c : After-u64_at-used) → c.u64_at-used.result ≡ used_in c.args.slots.now
names c = used_read _ _ (index_in c.args.slots.now (length c.args.area.now) c.requires) c.u64_at-used.ensures

-- the names fit
fit : (c : After-room_in) → c.u64_at-used.result ≤ c.room_in.result
fit c =
    let h = (index_in c.args.slots.now (length c.args.area.now) c.requires) in
    let n = (used_read _ _ (index_in c.args.slots.now (length c.args.area.now) c.requires) c.u64_at-used.ensures) in
    let r = c.room_in.ensures in
    omega arith

pub returns-then-n-eq-MOST_ENTRIES : goal.returns-then-n-eq-MOST_ENTRIES
unfolding added
returns-then-n-eq-MOST_ENTRIES c =
    let a = c.args in
    let n = count (goal.at.returns-then-n-eq-MOST_ENTRIES c).After-u64_at-n in
    rw (slot_none a.slots.now (length a.area.now) (length a.name.now) (omega arith))

pub overflow_sub-left : goal.overflow_sub-left
overflow_sub-left c = fit (goal.at.overflow_sub-left c).After-room_in

pub returns-then-left-name : goal.returns-then-left-name
unfolding added
returns-then-left-name c =
    let a = c.args in
    let n = names (goal.at.returns-then-left-name c).After-u64_at-used in
    let f = fit (goal.at.returns-then-left-name c).After-room_in in
    let e = c.room_in.ensures in
    rw (room-none a.slots.now (length a.area.now) (length a.name.now) (omega arith))

pub insert-requires : goal.insert-requires
insert-requires c =
    let h = held (goal.at.insert-requires c).Start in
    let e = c.room_in.ensures in
    let f = fit (goal.at.insert-requires c).After-room_in in
    let n = count (goal.at.insert-requires c).After-u64_at-n in
    (record { size = h.size; count = n; names = names (goal.at.insert-requires c).After-u64_at-used }, (omega arith, (omega arith, omega arith)))

pub returns : goal.returns
unfolding added
returns c =
    let a = c.args in
    let h = held (goal.at.returns c).Start in
    let e = c.room_in.ensures in
    let f = fit (goal.at.returns c).After-room_in in
    let n = count (goal.at.returns c).After-u64_at-n in
    let m = names (goal.at.returns c).After-u64_at-used in
    rw (slot_some a.slots.now (length a.area.now) (length a.name.now) (omega arith) (omega arith))
    (ap₂ (λ (s t : List ℕ). indexed s t 0) c.insert.ensures
    (c.put_bytes.ensures ∙ put_in a.area.now c.u64_at-used.result a.name.now (omega arith) ∙ ap (λ (k : ℕ). over a.area.now k a.name.now) m))
