-- `features::number_at` meets its contract. The invariant of its loop: a tail from n to `last` that is the rest of the part gives its number, and
-- where none is, the part names no feature.
use mathlib.Core.Bool.{true, false}
use mathlib.Core.List.{List}
use mathlib.Core.Path.{◌≡◌}
use Prim.Native.Nat.{ℕ, ◌≤◌}
use lib.Seq.{slice}
use Rattle.protocol.specs.Bytes.{same}
use Rattle.features.specs.Meaning.{Named}
use Rattle.features.proofs.Table.{tail_of}
use Rattle.features.proofs.number_at.Given as goal

abbrev pub Miss : (p q : List ℕ) (n last : ℕ) → Type 0
Miss p q n last = ((m : ℕ) → n ≤ m → m ≤ last → same q (tail_of m) ≡ false) → Named p 0

-- p has the number of a tail from n to `last` that is q; and it has none where none of them is
abbrev pub Hit : (p q : List ℕ) (n last : ℕ) → Type 0
Hit p q n last = (m : ℕ) → n ≤ m → m ≤ last → same q (tail_of m) ≡ true → Named p m

-- of s from f to e, whose tail is looked for from `rest` on, among those from n to `last`
abbrev pub Tried : (s : List ℕ) (f e : ℕ) (n last rest : ℕ) → Type 0
Tried s f e n last rest =
    (1 ≤ n) × (last ≤ 7) × (rest ≤ e) × Hit (slice f e s) (slice rest e s) n last × Miss (slice f e s) (slice rest e s) n last

abbrev pub invariant-loop-n : goal.invariant-loop-n
invariant-loop-n l = Tried l.s l.from l.to l.n l.last l.rest
