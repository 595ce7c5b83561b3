-- Parts of a list, and one that begins with a text. Assumes nothing.
use mathlib.Core.Bool.{false}
use mathlib.Core.List.{List}
use mathlib.Core.Path.{◌≡◌, sym, ap, ◌∙◌}
use Prim.Native.Nat.{ℕ, ◌+◌, ◌-◌, ◌<◌, ◌≤◌}
use native.Mathlib.Omega.{arith}
use lib.ListN.{length, take, drop, length-take}
use lib.Seq.{slice, length-slice, take-take}
use Rattle.std.proofs.lemmas.List.{drop-take}
use Rattle.protocol.proofs.Features.{same_length}
use Rattle.features.specs.Meaning.{starts_with}

-- the part of a list from f to e, as code makes it
pub slice-part : (f e : ℕ) (s : List ℕ) → f ≤ e → take (e - f) (drop f s) ≡ slice f e s
slice-part f e s o =
    let k : e ≡ f + (e - f) = omega arith in
    sym (ap (λ (j : ℕ). slice f j s) k ∙ drop-take f (e - f) s)

-- its first n
pub slice-front : (f e n : ℕ) (s : List ℕ) → f + n ≤ e → slice f (f + n) s ≡ take n (slice f e s)
slice-front f e n s h = sym (ap (λ (l : List ℕ). drop f l) (take-take (f + n) e s h)) ∙ drop-take f n (take e s)

-- too short for the text
pub starts-short : (f e : ℕ) (s t : List ℕ) → e ≤ length s → e - f < length t → starts_with t (slice f e s) ≡ false
starts-short f e s t i h = same_length (take (length t) (slice f e s)) t (λ x. omega (arith, length-take (length t) (slice f e s), length-slice f e s i))
