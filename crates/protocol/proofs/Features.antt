-- Laws of `specs/Features.antt`: the marker looked for place by place, and the pieces behind it byte by byte. Assumes nothing.
use mathlib.Core.Bool.{true, false}
use mathlib.Core.List.{List, [], ◌∷◌}
use mathlib.Core.Option.{none, some}
use mathlib.Core.Path.{◌≡◌, ap, ◌∙◌}
use mathlib.Mathlib.Data.Bool.Basic.{eq-false_of_not-eq-true}
use Prim.Native.Nat.{ℕ, ◌+◌, ◌≤◌, ◌<◌}
use native.Mathlib.Numerals.{add-one}
use native.Mathlib.Omega.{arith}
use lib.ListN.{length, get_or, take, drop, length-take, length-drop, drop_of_length-le}
use lib.Seq.{slice, slice_empty, take-suc, take-add, drop-cons, drop_at, drop-append-le, drop-drop, length-take-le}
use Rattle.protocol.specs.Bytes.{same}
use Rattle.protocol.specs.Features.{rest_after, separator, split}
use Rattle.protocol.proofs.Bytes.{same-eq}

-- lists of other lengths differ
pub same_length : (s t : List ℕ) → (length s ≡ length t → ⊥) → same s t ≡ false
same_length s t f = eq-false_of_not-eq-true (λ e. f (ap length (same-eq s t e)))

-- the marker m in front of a list, not in front of it, and in a list that is too short for it
after_front : (m s : List ℕ) → 0 < length s → same (take (length m) s) m ≡ true → rest_after m s ≡ some (drop (length m) s)
unfolding rest_after
after_front m [] h e = absurd (omega arith)
after_front m (b ∷ s) h e = rw e

after_tail : (m s : List ℕ) → 0 < length s → same (take (length m) s) m ≡ false → rest_after m s ≡ rest_after m (drop 1 s)
unfolding rest_after
after_tail m [] h e = absurd (omega arith)
after_tail m (b ∷ s) h e = rw e

after-short : (m s : List ℕ) → length s < length m → rest_after m s ≡ none
unfolding rest_after
after-short m [] h = rw (same_length m [] (λ e. omega arith))
after-short m (b ∷ s) h =
    rw (same_length (take (length m) (b ∷ s)) m (λ e. omega (arith, length-take (length m) (b ∷ s)))) (after-short m s (omega arith))

-- ... the same where a list goes on from i, with room for m up to e
module _ (m s : List ℕ) (i e : ℕ) (room : i + length m ≡ e) (inside : e ≤ length s) (some_bytes : 0 < length m) where
  at_place : slice i e s ≡ take (length m) (drop i s)
  at_place = rw (← room, take-add) (drop_at (take i s) (take (length m) (drop i s)) i (length-take-le i s (omega arith)))

  pub after-here : same (slice i e s) m ≡ true → rest_after m (drop i s) ≡ some (drop e s)
  after-here q = rw (← room) (after_front m (drop i s) (omega (arith, length-drop i s)) (rw at_place at q) ∙ ap some (drop-drop (length m) i s))

  pub after_next : same (slice i e s) m ≡ false → rest_after m (drop i s) ≡ rest_after m (drop (i + 1) s)
  after_next q = after_tail m (drop i s) (omega (arith, length-drop i s)) (rw at_place at q) ∙ ap (λ (t : List ℕ). rest_after m t) (drop-drop 1 i s)

pub after-end : (m s : List ℕ) (i : ℕ) → 0 < length m → length s < i + length m → rest_after m (drop i s) ≡ none
after-end m s i p h = after-short m (drop i s) (omega (arith, length-drop i s))

-- the byte at i of a list: one more of the piece that begins at `start`, the piece's end, or the end of all
module _ (s : List ℕ) (i : ℕ) (inside : i < length s) where
  pub split-on : (start : ℕ) → start ≤ i → separator (get_or s i 0) ≡ false
      → split (slice start i s) (drop i s) ≡ split (slice start (i + 1) s) (drop (i + 1) s)
  unfolding split
  split-on start h e =
      let l = length-take-le i s (omega arith) in
      rw (add-one, take-suc s i 0 inside, drop-append-le start (take i s) _ (omega arith), drop-cons s i 0 inside, e)

  pub split-cut : (piece : List ℕ) → separator (get_or s i 0) ≡ true
      → split piece (drop i s) ≡ piece ∷ split (slice (i + 1) (i + 1) s) (drop (i + 1) s)
  unfolding split
  split-cut piece e = rw (slice_empty, add-one, drop-cons s i 0 inside, e)

pub split-end : (s piece : List ℕ) (i : ℕ) → length s ≤ i → split piece (drop i s) ≡ piece ∷ []
unfolding split
split-end s piece i h = rw (drop_of_length-le s h)
