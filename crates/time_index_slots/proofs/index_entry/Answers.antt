-- `time_index_slots::index_entry` meets its contract.
use mathlib.Core.Bool.{true, ◌&&◌}
use mathlib.Core.List.{List}
use mathlib.Core.Path.{◌≡◌, sym, ap, ◌∙◌}
use Prim.Native.Nat.{ℕ, ◌+◌, ◌<◌, ◌≤◌}
use native.Mathlib.Omega.{arith}
use borrow.Author.Tests.{lt-ltb, le-ltb, lt-leb, le-leb}
use lib.Dec.{leb}
use lib.ListN.{length}
use Rattle.boundary.specs.Told.{out_size}
use Rattle.protocol.specs.Records.{u32_at}
use Rattle.time_index.specs.Slots.{is_index, count_in, used_in, slot_at, start_at, length_at}
use Rattle.time_index.specs.Crossing.{laid, cross_index_entry}
use Rattle.time_index_slots.proofs.Laws.{Index, answered-index, count-read, used_read, number_read, entry-put}
use Rattle.time_index_slots.proofs.index_entry.Goals.{After-u32_at-last, After-u32_at-start, After-u64_at, After-u64_at-n, Else-n-rank, Else-not-is_answered}
use Rattle.time_index_slots.proofs.index_entry.Goals as goal

-- it is answered, of an index
answered : (c : Else-not-is_answered)
    → is_index c.args.slots.now c.args.area && leb out_size (length c.args.out.now) ≡ true
answered c = sym c.is_answered.ensures ∙ c.if-not-is_answered.false

held : (c : Else-not-is_answered) → Index c.args.slots.now c.args.area
held c = let a = c.args in answered-index a.slots.now a.area (length a.out.now) (sym c.is_answered.ensures ∙ c.if-not-is_answered.false)

counted : (c : After-u64_at-n) → c.u64_at-n.result ≡ count_in c.args.slots.now
counted c = count-read _ _ (let a = c.args in answered-index a.slots.now a.area (length a.out.now) (sym c.is_answered.ensures ∙ c.if-not-is_answered.false)) c.u64_at-n.ensures

-- the rank is that of an entry, whose slot is there
inside : (c : Else-n-rank) → c.args.rank < count_in c.args.slots.now
inside c =
    let h = answered-index c.args.slots.now c.args.area (length c.args.out.now) (sym c.is_answered.ensures ∙ c.if-not-is_answered.false) in
    let n = count-read _ _ h c.u64_at-n.ensures in
    omega arith

there : (c : Else-n-rank) → slot_at c.args.rank + 16 ≤ length c.args.slots.now
there c =
    let h = answered-index c.args.slots.now c.args.area (length c.args.out.now) (sym c.is_answered.ensures ∙ c.if-not-is_answered.false) in
    let n = count-read _ _ h c.u64_at-n.ensures in
    omega arith

room : (c : Else-n-rank) → slot_at c.args.rank + 16 < 0x1_0000_0000
room c =
    let h = answered-index c.args.slots.now c.args.area (length c.args.out.now) (sym c.is_answered.ensures ∙ c.if-not-is_answered.false) in
    let n = count-read _ _ h c.u64_at-n.ensures in
    omega arith

-- the two numbers of its slot, and how many bytes the names take
begins : (c : After-u32_at-start)
    → c.u32_at-start.result ≡ start_at c.args.slots.now c.args.rank
begins c =
    let h = answered-index c.args.slots.now c.args.area (length c.args.out.now) (sym c.is_answered.ensures ∙ c.if-not-is_answered.false) in
    let n = count-read _ _ h c.u64_at-n.ensures in
    number_read 4 c.args.slots.now (slot_at c.args.rank + 8) (omega arith) c.u32_at-start.ensures

last : (c : After-u32_at-last)
    → c.u32_at-last.result ≡ u32_at (slot_at c.args.rank + 12) c.args.slots.now
last c =
    let h = answered-index c.args.slots.now c.args.area (length c.args.out.now) (sym c.is_answered.ensures ∙ c.if-not-is_answered.false) in
    let n = count-read _ _ h c.u64_at-n.ensures in
    number_read 4 c.args.slots.now (slot_at c.args.rank + 12) (omega arith) c.u32_at-last.ensures

names : (c : After-u64_at) → c.u64_at.result ≡ used_in c.args.slots.now
names c = used_read _ _ (let a = c.args in answered-index a.slots.now a.area (length a.out.now) (sym c.is_answered.ensures ∙ c.if-not-is_answered.false)) c.u64_at.ensures

pub returns-then-not-is_answered : goal.returns-then-not-is_answered
unfolding cross_index_entry
returns-then-not-is_answered c = rw (sym c.is_answered.ensures ∙ c.if-not-is_answered.true)

pub returns-then-n-rank : goal.returns-then-n-rank
unfolding cross_index_entry
returns-then-n-rank c =
    let n = counted (goal.at.returns-then-n-rank c).After-u64_at-n in
    let a = c.args in
    let low : count_in a.slots.now ≤ a.rank = omega arith in
    rw (answered (goal.at.returns-then-n-rank c).Else-not-is_answered, le-ltb _ _ low) (ap (λ (l : List ℕ). laid l 0) c.put_u64s.ensures)

pub overflow_mul-at : goal.overflow_mul-at
overflow_mul-at c = let r = room c in omega arith

pub overflow_add-at : goal.overflow_add-at
overflow_add-at c = let r = room c in omega arith

pub overflow_add-at-2 : goal.overflow_add-at-2
overflow_add-at-2 c = let r = room c in omega arith

pub overflow_add-at-3 : goal.overflow_add-at-3
overflow_add-at-3 c = let r = room (goal.at.overflow_add-at-3 c).Else-n-rank in omega arith

pub returns-then-u64_at-end : goal.returns-then-u64_at-end
unfolding cross_index_entry
returns-then-u64_at-end c =
    let s = c.args.slots.now in
    let r = c.args.rank in
    let b = begins (goal.at.returns-then-u64_at-end c).After-u32_at-start in
    let l = last (goal.at.returns-then-u64_at-end c).After-u32_at-last in
    let n = names (goal.at.returns-then-u64_at-end c).After-u64_at in
    let past : used_in s < start_at s r + length_at s r = omega arith in
    rw (answered (goal.at.returns-then-u64_at-end c).Else-not-is_answered, lt-ltb _ _ (inside (goal.at.returns-then-u64_at-end c).Else-n-rank), lt-leb _ _ past)

pub returns : goal.returns
unfolding cross_index_entry
returns c =
    let a = c.args in
    let s = a.slots.now in
    let h = there (goal.at.returns c).Else-n-rank in
    let b = begins (goal.at.returns c).After-u32_at-start in
    let l = last (goal.at.returns c).After-u32_at-last in
    let n = names (goal.at.returns c).After-u64_at in
    let within : start_at s a.rank + length_at s a.rank ≤ used_in s = omega arith in
    let time = number_read 8 s (slot_at a.rank) (omega arith) c.u64_at-2.ensures in
    rw (answered (goal.at.returns c).Else-not-is_answered, lt-ltb _ _ (inside (goal.at.returns c).Else-n-rank), le-leb _ _ within)
    (ap (λ (m : List ℕ). laid m 0) (entry-put a.out.now s a.rank c.put_u64s-2.ensures b l time))
