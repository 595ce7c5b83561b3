-- `fast_record::store_step` meets its contract: the numbers go in in front of the ids.
use mathlib.Core.List.{List, [], ◌∷◌}
use mathlib.Core.Path.{refl, ◌∙◌}
use Prim.Native.Nat.{ℕ}
use Rattle.std.proofs.Common.{rules}
use borrow.Author.Tests.{eq-eqb}
use Rattle.fast_record.specs.Standing.{number_in}
use Rattle.fast_record.proofs.Laws.{ids_stay}
use Rattle.fast_record.proofs.store_step.Goals as goal

pub returns-then-rec-eq-SIZE : goal.returns-then-rec-eq-SIZE
returns-then-rec-eq-SIZE c =
    let a = c.args in
    let b = a.rec.now in
    let s = a.step in
    let l = c.if-rec-eq-SIZE.true in
    let all : List ℕ =
    number_in b 0 ∷ number_in b 1 ∷ a.head ∷ a.tail ∷ a.lent ∷ number_in b 5 ∷ number_in b 6 ∷ s.state
    ∷ s.flag ∷ s.until ∷ s.from ∷ s.piece ∷ s.register
    ∷ 0 ∷ 0 ∷ 0 ∷ 0 ∷ 0 ∷ 0 ∷ 0 ∷ 0 ∷ 0 ∷ 0 ∷ 0
    ∷ []
    in
    let put =
    rw (c.number-capacity.ensures, c.number-message.ensures, c.number-features.ensures, c.number-ended.ensures) at c.put_u64s.ensures
    in
    simp (eq-eqb _ _ l) (put ∙ ids_stay b (λ k. search rules) all refl l)
