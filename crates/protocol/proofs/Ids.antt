-- Laws of `specs/Ids.antt`: where ids are told apart by their bytes, each is found by its own, and only by those. Assumes nothing.
use Prim.Native.Nat.{ℕ, zero, suc, ◌<◌}
use mathlib.Core.Bool.{Bool, true, false, not, ◌&&◌, and-eq-true_iff}
use mathlib.Core.List.{List, [], ◌∷◌}
use mathlib.Core.Option.{some, none-ne-some, some-injective}
use mathlib.Core.Path.{◌≡◌, refl, sym, ap, ◌∙◌}
use native.Mathlib.Omega.{arith}
use borrow.Author.Tests.{leb-true, eqb-true}
use lib.Dec.{eqb, leb}
use lib.ListN.{length}
use Rattle.protocol.specs.Bytes.{Bytes, pick, same}
use Rattle.protocol.specs.Ids.{Id, STAT, STA2, LIST, LIS2, SEND, SND2, RECV, RCV2, DATA, DONE, OKAY, FAIL, DENT, DNT2, QUIT, all, letters, Dialect, Table, under, published, Apart, Sound, is_letter, are_letters, is_value, Legal, among, named}
use Rattle.protocol.proofs.Bytes.{same_refl, same-eq}

-- an id that is found has the bytes that were looked for
among-sound : (d : Dialect) (is : List Id) (b : List ℕ) (i : Id) → among d is b ≡ some i → d.bytes i ≡ b
among-sound d [] b i e = absurd (none-ne-some i e)
among-sound d (j ∷ is) b i e = go (among-sound d is b i) (same (d.bytes j) b) refl e
  where
    go : (among d is b ≡ some i → d.bytes i ≡ b) → (t : Bool) → same (d.bytes j) b ≡ t → pick t (some j) (among d is b) ≡ some i → d.bytes i ≡ b
    go rest true f g = ap d.bytes (sym (some-injective j i g)) ∙ same-eq (d.bytes j) b f
    go rest false f g = rest g

pub named-sound : (d : Dialect) (b : List ℕ) (i : Id) → named d b ≡ some i → d.bytes i ≡ b
unfolding named
named-sound d b i e = among-sound d all b i e

-- an id that is found by its own bytes in one such dialect is found by them in any other
among-own : (d e : Dialect) → Apart d → Apart e → (is : List Id) (i : Id) → among d is (d.bytes i) ≡ some i → among e is (e.bytes i) ≡ some i
among-own d e ad ae [] i h = h
among-own d e ad ae (j ∷ is) i h = go (among-own d e ad ae is i) (same (d.bytes j) (d.bytes i)) refl (same (e.bytes j) (e.bytes i)) refl h
  where
    go : (among d is (d.bytes i) ≡ some i → among e is (e.bytes i) ≡ some i)
        → (t : Bool) → same (d.bytes j) (d.bytes i) ≡ t → (u : Bool) → same (e.bytes j) (e.bytes i) ≡ u
        → pick t (some j) (among d is (d.bytes i)) ≡ some i → pick u (some j) (among e is (e.bytes i)) ≡ some i
    go rest t f true g k = ap some (ae j i (same-eq _ _ g))
    go rest true f false g k = let q = some-injective j i k in cc (same_refl (e.bytes i))
    go rest false f false g k = rest k

-- the published ids, by computing: each is four bytes, and is found by them
computed : (i : Id) → (length (letters i) ≡ 4) × (is_value (letters i) ≡ true) × (named published (letters i) ≡ some i)
unfolding named
computed =
    elim [
      | STAT ↦ (refl, refl, refl)
      | STA2 ↦ (refl, refl, refl)
      | LIST ↦ (refl, refl, refl)
      | LIS2 ↦ (refl, refl, refl)
      | SEND ↦ (refl, refl, refl)
      | SND2 ↦ (refl, refl, refl)
      | RECV ↦ (refl, refl, refl)
      | RCV2 ↦ (refl, refl, refl)
      | DATA ↦ (refl, refl, refl)
      | DONE ↦ (refl, refl, refl)
      | OKAY ↦ (refl, refl, refl)
      | FAIL ↦ (refl, refl, refl)
      | DENT ↦ (refl, refl, refl)
      | DNT2 ↦ (refl, refl, refl)
      | QUIT ↦ (refl, refl, refl)
    ]

published-apart : Apart published
published-apart i j e = some-injective i j (sym (computed i).2 ∙ ap (named published) e ∙ (computed j).2)

pub published-legal : Legal letters
published-legal = record { value = λ i. (computed i).1; apart = published-apart }

-- a table that loading accepts has four bytes for each id
letter_byte : (b : ℕ) → is_letter b ≡ true → b < 256
letter_byte b e =
    let h = ((and-eq-true_iff (leb 33 b && leb b 126) (not (eqb b 44))).0 e).0 in
    let g = leb-true b 126 ((and-eq-true_iff (leb 33 b) (leb b 126)).0 h).1 in
    omega arith

letters-bytes : (s : List ℕ) → are_letters s ≡ true → Bytes s
letters-bytes [] e i = omega arith
letters-bytes (x ∷ s) e zero = letter_byte x ((and-eq-true_iff (is_letter x) (are_letters s)).0 e).0
letters-bytes (x ∷ s) e (suc i) = letters-bytes s ((and-eq-true_iff (is_letter x) (are_letters s)).0 e).1 i

pub value-four : (s : List ℕ) → is_value s ≡ true → length s ≡ 4
value-four s e = eqb-true (length s) 4 ((and-eq-true_iff (eqb (length s) 4) (are_letters s)).0 e).0

pub value-bytes : (s : List ℕ) → is_value s ≡ true → Bytes s
value-bytes s e = letters-bytes s ((and-eq-true_iff (eqb (length s) 4) (are_letters s)).0 e).1

pub legal-sound : (t : Table) → Legal t → Sound (under t)
legal-sound t l = record { four = λ i. value-four (t i) (l.value i); bytes = λ i. value-bytes (t i) (l.value i); apart = l.apart }

pub published-sound : Sound published
published-sound = legal-sound letters published-legal

-- where ids are apart, each is found by its own bytes
pub named-own : (d : Dialect) → Sound d → (i : Id) → named d (d.bytes i) ≡ some i
unfolding named
named-own d sound i = among-own published d published-apart sound.apart all i (computed i).2
