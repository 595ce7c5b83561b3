-- `time_index_slots::is_index` meets its contract.
use mathlib.Core.Path.{◌≡◌, sym, ◌∙◌}
use native.Mathlib.Omega.{arith}
use borrow.Author.Tests.{eq-eqb, ne_eqb, le-leb, lt-leb}
use Rattle.record.specs.Record.{word_of}
use Rattle.record.proofs.Words.{word_in}
use Rattle.time_index.specs.Slots.{is_index}
use Rattle.time_index_slots.proofs.is_index.Goals.{After-u64_at, After-u64_at-2, After-u64_at-3, After-u64_at-4}
use Rattle.time_index_slots.proofs.is_index.Goals as goal

-- the four numbers, as they were read
zeroth : (c : After-u64_at) → word_of c.args.slots.now 0 ≡ c.u64_at.result
zeroth c = sym (c.u64_at.ensures ∙ word_in c.args.slots.now 0 (omega arith))

first : (c : After-u64_at-2) → word_of c.args.slots.now 1 ≡ c.u64_at-2.result
first c = sym (c.u64_at-2.ensures ∙ word_in c.args.slots.now 1 (omega arith))

second : (c : After-u64_at-3) → word_of c.args.slots.now 2 ≡ c.u64_at-3.result
second c = sym (c.u64_at-3.ensures ∙ word_in c.args.slots.now 2 (omega arith))

third : (c : After-u64_at-4) → word_of c.args.slots.now 3 ≡ c.u64_at-4.result
third c = sym (c.u64_at-4.ensures ∙ word_in c.args.slots.now 3 (omega arith))

pub returns-then-slots-ne-SLOTS : goal.returns-then-slots-ne-SLOTS
unfolding is_index
returns-then-slots-ne-SLOTS c = rw (ne_eqb _ _ c.if-slots-ne-SLOTS.true)

pub returns-then-u64_at-ne-MARK : goal.returns-then-u64_at-ne-MARK
unfolding is_index
returns-then-u64_at-ne-MARK c = rw (eq-eqb _ _ c.if-slots-ne-SLOTS.false, zeroth (goal.at.returns-then-u64_at-ne-MARK c).After-u64_at, ne_eqb _ _ c.if-u64_at-ne-MARK.true)

pub returns-then-u64_at-area : goal.returns-then-u64_at-area
unfolding is_index
returns-then-u64_at-area c =
    rw (eq-eqb _ _ c.if-slots-ne-SLOTS.false, zeroth (goal.at.returns-then-u64_at-area c).After-u64_at, eq-eqb _ _ c.if-u64_at-ne-MARK.false, first (goal.at.returns-then-u64_at-area c).After-u64_at-2, ne_eqb _ _ c.if-u64_at-area.true)

pub returns-then-u64_at-gt-MOST_COUNT : goal.returns-then-u64_at-gt-MOST_COUNT
unfolding is_index
returns-then-u64_at-gt-MOST_COUNT c =
    rw (
      eq-eqb _ _ c.if-slots-ne-SLOTS.false,
      zeroth (goal.at.returns-then-u64_at-gt-MOST_COUNT c).After-u64_at,
      eq-eqb _ _ c.if-u64_at-ne-MARK.false,
      first (goal.at.returns-then-u64_at-gt-MOST_COUNT c).After-u64_at-2,
      eq-eqb _ _ c.if-u64_at-area.false,
      second (goal.at.returns-then-u64_at-gt-MOST_COUNT c).After-u64_at-3,
      lt-leb _ _ c.if-u64_at-gt-MOST_COUNT.true,
    )

pub returns : goal.returns
unfolding is_index
returns c =
    rw (
      eq-eqb _ _ c.if-slots-ne-SLOTS.false,
      zeroth (goal.at.returns c).After-u64_at,
      eq-eqb _ _ c.if-u64_at-ne-MARK.false,
      first (goal.at.returns c).After-u64_at-2,
      eq-eqb _ _ c.if-u64_at-area.false,
      second (goal.at.returns c).After-u64_at-3,
      le-leb _ _ c.if-u64_at-gt-MOST_COUNT.false,
      third c,
      c.room_in-room.ensures,
    )
