-- `time_index_slots::index_latest` meets its contract.
use mathlib.Core.Bool.{true, ◌&&◌}
use mathlib.Core.List.{List, [], ◌∷◌}
use mathlib.Core.Path.{◌≡◌, sym, ap, ◌∙◌}
use Prim.Native.Nat.{ℕ, ◌-◌, ◌≤◌}
use native.Mathlib.Omega.{arith}
use mir.Facts.{to_z-of_z}
use lib.Dec.{leb}
use lib.ListN.{length}
use Rattle.protocol.specs.Bytes.{signed, put}
use Rattle.boundary.specs.Told.{out_size}
use Rattle.record.specs.Fields.{unsigned}
use Rattle.record.specs.Record.{words}
use Rattle.time_index.specs.Slots.{is_index, count_in, slot_at, up_to, below}
use Rattle.time_index.specs.Crossing.{laid, cross_index_latest}
use Rattle.record_store.proofs.Times.{time}
use Rattle.time_index_slots.proofs.Laws.{Index, answered-index, count-read, number_read, up_read, latest-some}
use Rattle.time_index_slots.proofs.index_latest.Goals.{After-ranks_to-end, After-u64_at-n, Else-not-is_answered}
use Rattle.time_index_slots.proofs.index_latest.Goals as goal

-- it is answered, of an index
answered : (c : Else-not-is_answered)
    → is_index c.args.slots.now c.args.area && leb out_size (length c.args.out.now) ≡ true
answered c = sym c.is_answered.ensures ∙ c.if-not-is_answered.false

held : (c : Else-not-is_answered) → Index c.args.slots.now c.args.area
held c = let a = c.args in answered-index a.slots.now a.area (length a.out.now) (sym c.is_answered.ensures ∙ c.if-not-is_answered.false)

counted : (c : After-u64_at-n) → c.u64_at-n.result ≡ count_in c.args.slots.now
counted c = count-read _ _ (let a = c.args in answered-index a.slots.now a.area (length a.out.now) (sym c.is_answered.ensures ∙ c.if-not-is_answered.false)) c.u64_at-n.ensures

-- where they end: at most 4,096
end : (c : After-ranks_to-end)
    → c.ranks_to-end.result ≡ up_to c.args.slots.now c.args.time
end c =
    up_read c.args.slots.now c.args.time (omega (arith, c.ranges.time.sfits)) (λ i. (c.type_inv.slots i).fits)
    c.ranks_to-end.ensures.0 c.key.ensures (time c.args.time c.ranges.time.sfits c.cast_unsigned.ensures) (count-read _ _ (let a = c.args in answered-index a.slots.now a.area (length a.out.now) (sym c.is_answered.ensures ∙ c.if-not-is_answered.false)) c.u64_at-n.ensures)

end-small : (c : After-ranks_to-end) → c.ranks_to-end.result ≤ 4096
end-small c =
    let h = (let a = c.args in answered-index a.slots.now a.area (length a.out.now) (sym c.is_answered.ensures ∙ c.if-not-is_answered.false)) in
    let n = (count-read _ _ (let a = c.args in answered-index a.slots.now a.area (length a.out.now) (sym c.is_answered.ensures ∙ c.if-not-is_answered.false)) c.u64_at-n.ensures) in
    let e = c.ranks_to-end.ensures.1 in
    omega arith

pub returns-then-not-is_answered : goal.returns-then-not-is_answered
unfolding cross_index_latest
returns-then-not-is_answered c = rw (sym c.is_answered.ensures ∙ c.if-not-is_answered.true)

pub ranks_to-end-requires : goal.ranks_to-end-requires
ranks_to-end-requires c =
    let h = held (goal.at.ranks_to-end-requires c).Else-not-is_answered in
    let n = counted (goal.at.ranks_to-end-requires c).After-u64_at-n in
    (h.size, omega arith)

pub returns-then-end-eq0 : goal.returns-then-end-eq0
unfolding cross_index_latest
returns-then-end-eq0 c =
    let a = c.args in
    rw (answered (goal.at.returns-then-end-eq0 c).Else-not-is_answered, sym (end (goal.at.returns-then-end-eq0 c).After-ranks_to-end) ∙ c.if-end-eq0.true) (ap (λ (l : List ℕ). laid l 0) c.put_u64s.ensures)

pub overflow_mul-last : goal.overflow_mul-last
overflow_mul-last c = let k = end-small (goal.at.overflow_mul-last c).After-ranks_to-end in omega arith

pub overflow_add-last : goal.overflow_add-last
overflow_add-last c = let k = end-small (goal.at.overflow_add-last c).After-ranks_to-end in omega arith

pub ranks_below-first-requires : goal.ranks_below-first-requires
ranks_below-first-requires c =
    let h = held (goal.at.ranks_below-first-requires c).Else-not-is_answered in
    let n = counted (goal.at.ranks_below-first-requires c).After-u64_at-n in
    (h.size, (omega arith, n))

pub returns : goal.returns
unfolding cross_index_latest
returns c =
    let a = c.args in
    let s = a.slots.now in
    let h = held (goal.at.returns c).Else-not-is_answered in
    let k = end-small (goal.at.returns c).After-ranks_to-end in
    let last = number_read 8 s (slot_at (c.ranks_to-end.result - 1)) (omega arith) c.u64_at.ensures in
    rw (answered (goal.at.returns c).Else-not-is_answered, sym (end (goal.at.returns c).After-ranks_to-end), latest-some s c.ranks_to-end.result (omega arith))
    (ap (λ (l : List ℕ). laid l 0)
    (c.put_u64s-2.ensures ∙ ap (λ (f : ℕ). put a.out.now 0 (words (1 ∷ f ∷ []))) (c.ranks_below-first.ensures.0 ∙ ap (λ (x : ℕ). below s (signed x)) last)))
