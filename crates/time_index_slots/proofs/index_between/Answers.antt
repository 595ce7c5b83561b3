-- `time_index_slots::index_between` meets its contract.
use mathlib.Core.Bool.{true, ◌&&◌}
use mathlib.Core.List.{List, [], ◌∷◌}
use mathlib.Core.Path.{◌≡◌, sym, ap, ap₂, ◌∙◌}
use Prim.Native.Nat.{ℕ, ◌-◌}
use native.Mathlib.Omega.{arith}
use mir.Facts.{to_z-of_z}
use lib.Dec.{leb}
use lib.ListN.{length}
use Rattle.protocol.specs.Bytes.{put}
use Rattle.boundary.specs.Told.{out_size}
use Rattle.record.specs.Fields.{unsigned}
use Rattle.record.specs.Record.{words}
use Rattle.time_index.specs.Slots.{is_index, count_in, up_to, below}
use Rattle.time_index.specs.Crossing.{laid, cross_index_between}
use Rattle.record_store.proofs.Times.{time}
use Rattle.time_index_slots.proofs.Laws.{Index, answered-index, count-read, up_read, below-read}
use Rattle.time_index_slots.proofs.index_between.Goals.{After-ranks_below-first, After-ranks_to-end, After-u64_at-n, Else-not-is_answered}
use Rattle.time_index_slots.proofs.index_between.Goals as goal

-- it is answered, of an index
answered : (c : Else-not-is_answered)
    → is_index c.args.slots.now c.args.area && leb out_size (length c.args.out.now) ≡ true
answered c = sym c.is_answered.ensures ∙ c.if-not-is_answered.false

held : (c : Else-not-is_answered) → Index c.args.slots.now c.args.area
held c = let a = c.args in answered-index a.slots.now a.area (length a.out.now) (sym c.is_answered.ensures ∙ c.if-not-is_answered.false)

counted : (c : After-u64_at-n) → c.u64_at-n.result ≡ count_in c.args.slots.now
counted c = count-read _ _ (let a = c.args in answered-index a.slots.now a.area (length a.out.now) (sym c.is_answered.ensures ∙ c.if-not-is_answered.false)) c.u64_at-n.ensures

-- where they start, and where they end
first : (c : After-ranks_below-first)
    → c.ranks_below-first.result ≡ below c.args.slots.now c.args.from
first c =
    below-read c.args.slots.now c.args.from (omega (arith, c.ranges.from.sfits)) c.ranks_below-first.ensures.0 (time c.args.from c.ranges.from.sfits c.cast_unsigned.ensures)

end : (c : After-ranks_to-end)
    → c.ranks_to-end.result
    ≡ up_to c.args.slots.now c.args.to
end c =
    up_read c.args.slots.now c.args.to (omega (arith, c.ranges.to.sfits)) (λ i. (c.type_inv.slots i).fits)
    c.ranks_to-end.ensures.0 c.key.ensures (time c.args.to c.ranges.to.sfits c.cast_unsigned-2.ensures) (count-read _ _ (let a = c.args in answered-index a.slots.now a.area (length a.out.now) (sym c.is_answered.ensures ∙ c.if-not-is_answered.false)) c.u64_at-n.ensures)

pub returns-then-not-is_answered : goal.returns-then-not-is_answered
unfolding cross_index_between
returns-then-not-is_answered c = rw (sym c.is_answered.ensures ∙ c.if-not-is_answered.true)

pub ranks_below-first-requires : goal.ranks_below-first-requires
ranks_below-first-requires c =
    let h = held (goal.at.ranks_below-first-requires c).Else-not-is_answered in
    let n = counted (goal.at.ranks_below-first-requires c).After-u64_at-n in
    (h.size, (omega arith, n))

pub ranks_to-end-requires : goal.ranks_to-end-requires
ranks_to-end-requires c =
    let h = held (goal.at.ranks_to-end-requires c).Else-not-is_answered in
    let n = counted (goal.at.ranks_to-end-requires c).After-u64_at-n in
    (h.size, omega arith)

pub returns : goal.returns
unfolding cross_index_between
returns c =
    let a = c.args in
    let out = a.out.now in
    rw (answered (goal.at.returns c).Else-not-is_answered)
    (ap (λ (l : List ℕ). laid l 0)
    (c.put_u64s.ensures
    ∙ ap₂ (λ (k f : ℕ). put out 0 (words (k ∷ f ∷ []))) (c.ranks_from-count.ensures ∙ ap₂ (λ (e f : ℕ). e - f) (end (goal.at.returns c).After-ranks_to-end) (first (goal.at.returns c).After-ranks_below-first)) (first (goal.at.returns c).After-ranks_below-first)))
