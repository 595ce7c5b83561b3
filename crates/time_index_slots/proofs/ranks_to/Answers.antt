-- Answers to goals of `time_index_slots::ranks_to`.
use mathlib.Core.Path.{◌≡◌, refl, sym, ap, ◌∙◌}
use Prim.Native.Nat.{ℕ, ◌-◌}
use native.Mathlib.Omega.{arith}
use borrow.Author.Rules.{rules}
use borrow.Author.Tests.{le-leb, lt-leb}
use lib.Dec.{leb}
use Rattle.time_index.specs.Slots.{time_at}
use Rattle.time_index_slots.specs.Keys.{key_to}
use Rattle.time_index_slots.proofs.Laws.{key_read, ranks-last, ranks-zero}
use Rattle.time_index_slots.proofs.ranks_to.Goals.{After-key}
use Rattle.time_index_slots.proofs.ranks_to.Goals as goal

-- the test of the last rank that is left
tested : (c : After-key)
    → key_to c.args.most (time_at c.args.slots.now (c.loop-i.i - 1))
    ≡ leb c.key.result c.args.most
tested c =
    let a = c.args in
    ap (λ (k : ℕ). leb k a.most)
    (key_read a.slots.now (c.loop-i.i - 1) (λ i. (c.type_inv.slots i).fits) (omega arith) c.u64_at.ensures
    ∙ sym c.key.ensures)

pub returns-then-key-most : goal.returns-then-key-most
returns-then-key-most c =
    let a = c.args in
    (sym (c.loop-i.invariant ∙ ranks-last (key_to a.most) a.slots.now c.loop-i.i (omega arith) ∙ rw (tested (goal.at.returns-then-key-most c).After-key, le-leb _ _ c.if-key-most.true) (omega arith)), omega arith)

pub loop-i-preserved : goal.loop-i-preserved
loop-i-preserved c =
    let a = c.args in
    c.loop-i.invariant ∙ ranks-last (key_to a.most) a.slots.now c.loop-i.i (omega arith) ∙ rw (tested (goal.at.loop-i-preserved c).After-key, lt-leb _ _ c.if-key-most.false)

pub returns : goal.returns
returns c =
    let a = c.args in
    (sym (c.loop-i.invariant ∙ ranks-zero (key_to a.most) a.slots.now c.loop-i.i (omega arith)), search rules)
