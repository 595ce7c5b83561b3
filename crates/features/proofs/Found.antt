-- The features found so far, by their numbers, and those of the pieces still to come. Assumes nothing.
use mathlib.Core.Bool.{Bool, true, false, ◌||◌, or-true, or-false}
use mathlib.Core.List.{List, [], ◌∷◌}
use mathlib.Core.Path.{◌≡◌, refl, sym, ap}
use Prim.Native.Nat.{ℕ, ◌-◌, ◌≤◌}
use native.Mathlib.Decide.{ℕ_discrete}
use native.Mathlib.Omega.{arith}
use borrow.Author.Tests.{eq-eqb, ne_eqb}
use lib.Dec.{eqb}
use lib.ListN.{length, get_or, set}
use lib.Seq.{get_or-set_same, get_or-set_other}
use Rattle.protocol.specs.Bytes.{same}
use Rattle.protocol.specs.Features.{names, some_is}
use Rattle.features.specs.Meaning.{Named}
use Rattle.features.proofs.Names.{each}

abbrev pub name_of : ℕ → List ℕ
name_of n = get_or names (n - 1) []

-- the features of some pieces, or found before them
abbrev pub Had : (found : List Bool) (pieces : List (List ℕ)) → ℕ → Bool
Had found pieces n = get_or found (n - 1) false || some_is (name_of n) pieces

-- before the first piece none is found
pub none_found : (pieces : List (List ℕ)) (n : ℕ) → 1 ≤ n → n ≤ 7
    → some_is (name_of n) pieces ≡ Had (false ∷ false ∷ false ∷ false ∷ false ∷ false ∷ false ∷ []) pieces n
none_found pieces = each _ refl refl refl refl refl refl refl

number-of : (p : List ℕ) (r : ℕ) → Named p r → (n : ℕ) → 1 ≤ n → n ≤ 7 → same p (name_of n) ≡ eqb r n
number-of p r e =
    each (λ n. same p (name_of n) ≡ eqb r n)
    (ap (λ (l : List Bool). get_or l 0 false) e)
    (ap (λ (l : List Bool). get_or l 1 false) e)
    (ap (λ (l : List Bool). get_or l 2 false) e)
    (ap (λ (l : List Bool). get_or l 3 false) e)
    (ap (λ (l : List Bool). get_or l 4 false) e)
    (ap (λ (l : List Bool). get_or l 5 false) e)
    (ap (λ (l : List Bool). get_or l 6 false) e)

-- a piece whose number is r
pub one_found : (found : List Bool) (p : List ℕ) (ps : List (List ℕ)) (r : ℕ) → length found ≡ 7 → 1 ≤ r → r ≤ 7 → Named p r
    → (n : ℕ) → 1 ≤ n → n ≤ 7 → Had found (p ∷ ps) n ≡ Had (set found (r - 1) true) ps n
one_found found p ps r l a b e n h k = go (ℕ_discrete n r)
  where
    go : Dec (n ≡ r) → Had found (p ∷ ps) n ≡ Had (set found (r - 1) true) ps n
    go (yes x) = rw (number-of p r e n h k, eq-eqb r n (sym x), x, get_or-set_same found (r - 1) true false (omega arith)) (or-true (get_or found (r - 1) false))
    go (no x) = rw (number-of p r e n h k, ne_eqb r n (λ y. x (sym y)), get_or-set_other found (r - 1) (n - 1) true false (λ y. x (omega arith)))

-- a piece that names no feature
pub none_more : (found : List Bool) (p : List ℕ) (ps : List (List ℕ)) → Named p 0 → (n : ℕ) → 1 ≤ n → n ≤ 7 → Had found (p ∷ ps) n ≡ Had found ps n
none_more found p ps e n h k = rw (number-of p 0 e n h k, ne_eqb 0 n (λ y. omega arith))

-- behind the last piece
pub last_found : (found : List Bool) (n : ℕ) → Had found [] n ≡ get_or found (n - 1) false
last_found found n = or-false _
