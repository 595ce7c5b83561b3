-- Answers to goals of `features::number_at`.
use mathlib.Core.Bool.{true, false}
use mathlib.Core.List.{List}
use mathlib.Core.Path.{◌≡◌, sym, ◌∙◌, subst}
use Prim.Native.Nat.{ℕ, ◌+◌, ◌≤◌}
use native.Mathlib.Decide.{ℕ_discrete}
use native.Mathlib.Omega.{arith}
use borrow.Author.Rules.{rules}
use lib.Dec.{lit≤}
use lib.ListN.{length}
use lib.Seq.{slice}
use Rattle.protocol.specs.Bytes.{same}
use Rattle.features.specs.Meaning.{starts_with}
use Rattle.features.proofs.Table.{beginning, tail_of}
use Rattle.features.proofs.Names.{ends-rise, hit_alone, hit_begun, miss_alone, miss_begun, beginning_cut}
use Rattle.features.proofs.number_at.Invariants.{Miss, Hit, Tried}
use Rattle.features.proofs.number_at.Goals.{then-begins, else-begins}
use Rattle.features.proofs.number_at.Goals as goal

-- the tails from n on are none of q if neither the one at n is, nor those behind it
missed : (q : List ℕ) (n last : ℕ) → same q (tail_of n) ≡ false → ((m : ℕ) → n + 1 ≤ m → m ≤ last → same q (tail_of m) ≡ false)
    → (m : ℕ) → n ≤ m → m ≤ last → same q (tail_of m) ≡ false
missed q n last e f m h k = go (ℕ_discrete m n)
  where
    go : Dec (m ≡ n) → same q (tail_of m) ≡ false
    go (yes x) = rw x e
    go (no x) = f m (omega arith) k

tried-so : (s : List ℕ) (f e : ℕ) {n last rest m l r : ℕ} → n ≡ m → last ≡ l → rest ≡ r → Tried s f e m l r → Tried s f e n last rest
tried-so s f e a b c t = rw (a, b, c) t

-- before the first is tried, without the beginning and with it
module _ (s : List ℕ) (f e : ℕ) (ordered : f ≤ e) (inside : e ≤ length s) where
  alone_tried : starts_with beginning (slice f e s) ≡ false → Tried s f e 1 2 f
  alone_tried h = (lit≤ tt, lit≤ tt, ordered, hit_alone (slice f e s), miss_alone (slice f e s) h)

  begun-tried : starts_with beginning (slice f e s) ≡ true → Tried s f e 3 7 (f + 11)
  begun-tried h =
      let b = beginning_cut s f e inside h in
      let q = slice (f + 11) e s in
      (lit≤ tt, lit≤ tt, b.0, subst (λ (p : List ℕ). Hit p q 3 7) (sym b.1) (hit_begun q), subst (λ (p : List ℕ). Miss p q 3 7) (sym b.1) (miss_begun q))

pub overflow_add-rest : goal.overflow_add-rest
overflow_add-rest c =
    let a = c.args in
    let b = beginning_cut a.s.now a.from a.to (omega arith) (sym c.begins.ensures ∙ c.if-begins.true) in
    search rules

pub loop-n-init : goal.loop-n-init
loop-n-init c =
    let a = c.args in
    elim c.if-begins.branch [
      | then-begins w ↦
          tried-so a.s.now a.from a.to w.first-is w.last-is w.rest-is
          (begun-tried a.s.now a.from a.to (omega arith) (omega arith) (sym c.begins.ensures ∙ w.if-begins.true))
      | else-begins w ↦
          tried-so a.s.now a.from a.to w.first-is w.last-is w.rest-is
          (alone_tried a.s.now a.from a.to (omega arith) (omega arith) (sym c.begins.ensures ∙ w.if-begins.false))
    ]

pub overflow_cast-start : goal.overflow_cast-start
overflow_cast-start c = let r = ends-rise c.loop-n.n (omega arith) (omega arith) in omega arith

pub overflow_cast-end : goal.overflow_cast-end
overflow_cast-end c = let r = ends-rise c.loop-n.n (omega arith) (omega arith) in omega arith

pub slice_bounds-part_is-count : goal.slice_bounds-part_is-count
slice_bounds-part_is-count c = let r = ends-rise c.loop-n.n (omega arith) (omega arith) in omega arith

pub slice_bounds-part_is-start : goal.slice_bounds-part_is-start
slice_bounds-part_is-start c = let r = ends-rise c.loop-n.n (omega arith) (omega arith) in omega arith

pub slice_bounds-part_is-end : goal.slice_bounds-part_is-end
slice_bounds-part_is-end c = let r = ends-rise c.loop-n.n (omega arith) (omega arith) in omega arith

pub returns-then-part_is : goal.returns-then-part_is
returns-then-part_is c =
    let hit = c.loop-n.invariant.3 c.loop-n.n (omega arith) c.loop-n-test.true in
    (omega arith, omega arith, hit (sym c.part_is.ensures ∙ c.if-part_is.true))

pub loop-n-preserved : goal.loop-n-preserved
loop-n-preserved c =
    let a = c.args in
    let other = sym c.part_is.ensures ∙ c.if-part_is.false in (
      search rules,
      search rules,
      search rules,
      λ m h k. c.loop-n.invariant.3 m (omega arith) k,
      λ f. c.loop-n.invariant.4 (missed (slice c.if-begins.rest a.to a.s.now) c.loop-n.n c.if-begins.last other f),
    )

pub returns-else-part_is : goal.returns-else-part_is
returns-else-part_is c =
    let other = sym c.part_is.ensures ∙ c.if-part_is.false in
    c.loop-n.invariant.4 (missed (slice c.if-begins.rest c.args.to c.args.s.now) c.loop-n.n c.if-begins.last other (λ m h k. absurd (omega arith)))

pub returns-after-begins : goal.returns-after-begins
returns-after-begins c = c.loop-n.invariant.4 (λ m h k. absurd (omega arith))
