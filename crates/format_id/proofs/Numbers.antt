-- An id is found by its number as it is by its bytes: four bytes are determined by the number that they spell. Assumes nothing.
use mathlib.Core.Bool.{Bool, true, false}
use mathlib.Core.List.{List, [], ◌∷◌}
use mathlib.Core.Option.{Option, none, some}
use mathlib.Core.Path.{◌≡◌, refl, sym, ap, ◌∙◌}
use Prim.Native.Nat.{ℕ}
use native.Mathlib.Decide.{ℕ_discrete}
use native.Mathlib.Omega.{arith}
use borrow.Author.Tests.{eq-eqb, ne_eqb}
use lib.Dec.{eqb}
use lib.ListN.{length}
use lib.Seq.{take_all}
use Rattle.protocol.specs.Bytes.{pick, Bytes, le, same, number_at, whole}
use Rattle.protocol.specs.Ids.{Id, Dialect, all, letters, published, among, named}
use Rattle.protocol.specs.Records.{u32_at}
use Rattle.protocol.proofs.Bytes.{bytes_of-le, same_refl, same-eq, whole_in}

-- as many bytes that spell the same number are the same
le-eq : (a b : List ℕ) → length a ≡ length b → Bytes a → Bytes b → le a ≡ le b → a ≡ b
le-eq a b l p q e = cc (bytes_of-le a p, bytes_of-le b q)

-- the first of some ids whose bytes spell n
abbrev pub by_number_lem : Dialect → List Id → ℕ → Option Id
by_number_lem d [] n = none
by_number_lem d (i ∷ is) n = pick (eqb n (le (d.bytes i))) (some i) (by_number_lem d is n)

-- where each id is four bytes, be they apart or not
module _ (d : Dialect) (fours : (i : Id) → length (d.bytes i) ≡ 4) (octets : (i : Id) → Bytes (d.bytes i)) (b : List ℕ) (four : length b ≡ 4) (bytes : Bytes b) where
  among-number : (is : List Id) → among d is b ≡ by_number_lem d is (le b)
  among-number [] = refl
  among-number (i ∷ is) = go (among-number is) (ℕ_discrete (le b) (le (d.bytes i)))
    where
      other : (le b ≡ le (d.bytes i) → ⊥) → (t : Bool) → same (d.bytes i) b ≡ t → t ≡ false
      other f true h = absurd (f (ap le (sym (same-eq (d.bytes i) b h))))
      other f false h = refl

      go : among d is b ≡ by_number_lem d is (le b) → Dec (le b ≡ le (d.bytes i)) → among d (i ∷ is) b ≡ by_number_lem d (i ∷ is) (le b)
      go rest (yes h) =
          let e = le-eq (d.bytes i) b (fours i ∙ sym four) (octets i) bytes (sym h) in
          rw (eq-eqb _ _ h, e, same_refl b)
      go rest (no f) = rw (ne_eqb _ _ f, other f (same (d.bytes i) b) refl, rest)

  -- four bytes name the id that their number names
  pub named-number : (n : ℕ) → n ≡ whole 4 0 (u32_at 0) b 0 → by_number_lem d all n ≡ named d b
  unfolding named number_at
  named-number n e =
      ap (by_number_lem d all) (e ∙ whole_in 4 0 (u32_at 0) b 0 (omega arith) ∙ ap le (take_all 4 b (omega arith)))
      ∙ sym (among-number all)

-- that n is the number of none of some ids, as the last arm of a `match` has it: a fact for each, behind those of X
abbrev pub NoneOf : ℕ → Type 0 → List Id → Type 0
NoneOf n X [] = X
NoneOf n X (i ∷ is) = NoneOf n (X × (n ≡ le (letters i) → ⊥)) is

pub none_of : (n : ℕ) (X : Type 0) (is : List Id) → NoneOf n X is → X × (by_number_lem published is n ≡ none)
none_of n X [] h = (h, refl)
none_of n X (i ∷ is) h =
    let r = none_of n (X × (n ≡ le (letters i) → ⊥)) is h in
    (r.0.0, rw (ne_eqb _ _ r.0.1, r.1))
