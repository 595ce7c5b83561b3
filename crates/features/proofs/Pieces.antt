-- The pieces of a list from a place on, one after the other. Assumes nothing.
use mathlib.Core.Bool.{true, false, not}
use mathlib.Core.List.{List, [], ◌∷◌}
use mathlib.Core.Option.{Option, none, some}
use mathlib.Core.Path.{◌≡◌, refl, ◌∙◌}
use Prim.Native.Nat.{ℕ, zero, suc, ◌+◌, ◌-◌, ◌<◌, ◌≤◌}
use native.Mathlib.Omega.{arith}
use borrow.Author.Tests.{le-leb, lt-leb}
use lib.ListN.{length, get_or, drop, length-drop}
use lib.Seq.{slice, slice_empty, get_or-drop}
use Rattle.std.specs.Prelude.{position, Some, None}
use Rattle.std.specs.List.{position_or_len}
use Rattle.std.proofs.lemmas.List.Sums.{fails_before_first, prefix_len-le-length}
use Rattle.std.proofs.lemmas.List.Quantifiers.{position-Some}
use Rattle.protocol.specs.Features.{marker, rest_after, separator, split, some_is, in_pieces, has_feature}
use Rattle.protocol.proofs.Features.{split-on, split-cut, split-end}
use Rattle.features.specs.Meaning.{pieces_from, pieces_behind}

-- from a place within the list, and past its end
pub pieces-within : (s : List ℕ) (i : ℕ) → i ≤ length s → pieces_from i s ≡ split [] (drop i s)
pieces-within s i h = rw (le-leb _ _ h)

pub pieces-past : (s : List ℕ) (i : ℕ) → length s < i → pieces_from i s ≡ []
pieces-past s i h = rw (lt-leb _ _ h)

-- the test for a name asks the pieces behind the marker
pub has-pieces : (banner name : List ℕ) → has_feature banner name ≡ some_is name (pieces_behind (rest_after marker banner))
unfolding has_feature
has-pieces banner name = go (rest_after marker banner)
  where
    go : (o : Option (List ℕ)) → in_pieces name o ≡ some_is name (pieces_behind o)
    go none = refl
    go (some s) = refl

-- a piece ends at a separator, the last one at the list's end
pub piece_cut : (s piece : List ℕ) (i : ℕ) → i < length s → separator (get_or s i 0) ≡ true → split piece (drop i s) ≡ piece ∷ pieces_from (i + 1) s
piece_cut s piece i h e = split-cut s i h piece e ∙ rw (slice_empty, pieces-within s (i + 1) (omega arith))

pub piece-last : (s piece : List ℕ) (i : ℕ) → length s ≤ i → split piece (drop i s) ≡ piece ∷ pieces_from (i + 1) s
piece-last s piece i h = split-end s piece i h ∙ rw (pieces-past s (i + 1) (omega arith))

-- a piece up to the place that a search for a separator gives, or to the end where it gives none
module _ (s : List ℕ) (i : ℕ) (inside : i ≤ length s) where
  unseparated : (n : ℕ) → i + n ≤ length s → ((k : ℕ) → k < n → separator (get_or (drop i s) k 0) ≡ false)
      → split [] (drop i s) ≡ split (slice i (i + n) s) (drop (i + n) s)
  unseparated zero h f = let here : i + 0 ≡ i = omega arith in rw (here, slice_empty)
  unseparated (suc n) h f =
      let on : i + n + 1 ≡ i + suc n = omega arith in
      unseparated n (omega arith) (λ k l. f k (omega arith))
      ∙ split-on s (i + n) (omega arith) i (omega arith) (rw get_or-drop at (f n (omega arith)))
      ∙ rw on

  pub piece_to : (n : ℕ) → position separator (drop i s) ≡ Some n
      → (i + n ≤ length s) × (split [] (drop i s) ≡ slice i (i + n) s ∷ pieces_from (i + n + 1) s)
  piece_to n e =
      let p = position-Some separator (drop i s) n 0 e in
      let room : i + n < length s = omega (arith, p.0, length-drop i s) in
      (omega arith, unseparated n (omega arith) p.2 ∙ piece_cut s (slice i (i + n) s) (i + n) room (rw get_or-drop at p.1))

  pub piece_all : position separator (drop i s) ≡ None → split [] (drop i s) ≡ slice i (length s) s ∷ pieces_from (length s + 1) s
  piece_all e =
      let p : position_or_len separator (drop i s) ≡ length (drop i s) = grind (arith, prefix_len-le-length (λ b. not (separator b)) (drop i s)) in
      let end : i + (length s - i) ≡ length s = omega arith in
      unseparated (length s - i) (omega arith) (λ k l. fails_before_first separator (drop i s) k 0 (omega (arith, length-drop i s)))
      ∙ rw end (piece-last s (slice i (length s) s) (length s) (omega arith))
