-- `time_index_slots::insert` meets its contract.
use mathlib.Core.List.{List, [], ◌∷◌}
use mathlib.Core.Path.{◌≡◌, refl, sym, ap, ◌∙◌}
use Prim.Native.Nat.{ℕ, ◌+◌}
use native.Mathlib.Omega.{arith}
use Rattle.protocol.specs.Bytes.{signed, over}
use Rattle.protocol.proofs.Bytes.{put_in}
use Rattle.record.specs.Record.{words}
use Rattle.record.proofs.Words.{put_next}
use Rattle.time_index.specs.Index.{no_later}
use Rattle.time_index.specs.Slots.{ranks, slot_of, slots_with}
use Rattle.time_index_slots.specs.Keys.{key_to}
use Rattle.time_index_slots.proofs.Laws.{ranks-up, among}
use Rattle.time_index_slots.proofs.insert.Goals.{After-ranks_to-rank}
use Rattle.time_index_slots.proofs.insert.Goals as goal

-- the rank, by the times
ranked : (c : After-ranks_to-rank)
    → ranks (λ z. no_later z (signed c.args.time)) c.args.slots.now c.args.n
    ≡ c.ranks_to-rank.result
ranked c =
    let a = c.args in
    let s = a.slots.now in
    sym (c.ranks_to-rank.ensures.0
    ∙ ap (λ (x : ℕ). ranks (key_to x) s a.n) c.key.ensures
    ∙ ranks-up s (λ i. (c.slice_known-1.given i).fits) a.time (omega arith) a.n)

pub returns : goal.returns
unfolding slots_with
returns c =
    let a = c.args in
    let s = a.slots.now in
    let slot = slot_of (signed a.time) a.used a.len a.n in
    let counts : List ℕ = words ((a.n + 1) ∷ (a.used + a.len) ∷ []) in
    let there = among s a.n c.ranks_to-rank.result slot refl (omega arith) (omega arith) c.make_room.ensures c.put_slot.ensures in
    let two = put_next _ 16 24 ((a.n + 1) ∷ []) ((a.used + a.len) ∷ []) c.put_u64.ensures c.put_u64-2.ensures (omega arith) (omega arith) in
    rw (sym c.requires.0.count, sym c.requires.0.names, ranked (goal.at.returns c).After-ranks_to-rank)
    (two ∙ put_in _ 16 counts (omega arith) ∙ ap (λ (l : List ℕ). over l 16 counts) there)
