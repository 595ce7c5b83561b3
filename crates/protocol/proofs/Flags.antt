-- Laws of `specs/Flags.antt`: the count of the three low bits, the tests of a refused word, and a table that pins which words are.
-- Assumes nothing.
use mathlib.Core.Bool.{Bool, true, false, ◌&&◌, ◌||◌, or_assoc, or_comm}
use mathlib.Core.List.{List, [], ◌∷◌, map}
use mathlib.Core.Path.{◌≡◌, refl, ap, ◌∙◌}
use Prim.Native.Nat.{ℕ, ◌+◌, ◌/◌, ◌%◌}
use native.Mathlib.Nat.{add-zero, add_assoc}
use native.Mathlib.Omega.{arith}
use lib.Count.{ones, ones_in, ones_step}
use lib.Dec.{ltb}
use Rattle.protocol.specs.Flags.{bit, several, unknown, dry_run, refused_flags}

ones-zero : ones 0 ≡ 0
unfolding ones ones_in
ones-zero = refl

-- the ones among the three low bits, bit by bit
pub ones3 : (f : ℕ) → ones (f % 8) ≡ bit 0 f + bit 1 f + bit 2 f
ones3 f = rw (ones_step (f % 8), ones_step (f % 8 / 2), ones_step (f % 8 / 2 / 2), beyond, ones-zero, bit0, bit1, bit2, add-zero, add_assoc)
  where
    bit0 : f % 8 % 2 ≡ bit 0 f
    bit0 = omega arith

    bit1 : f % 8 / 2 % 2 ≡ bit 1 f
    bit1 = omega arith

    bit2 : f % 8 / 2 / 2 % 2 ≡ bit 2 f
    bit2 = omega arith

    beyond : f % 8 / 2 / 2 / 2 ≡ 0
    beyond = omega arith

-- more than one of the bits 1, 2 and 4 is more than one 1 among the three low bits
pub several-ones : (f : ℕ) → ltb 1 (ones (f % 8)) ≡ several f
unfolding several
several-ones f = ap (ltb 1) (ones3 f)

-- the dry run may as well be tested last
pub refused-order : (pull : Bool) (f : ℕ) → refused_flags pull f ≡ unknown f || several f || pull && dry_run f
unfolding refused_flags
refused-order pull f = or_assoc (pull && dry_run f) (unknown f) (several f) ∙ or_comm (pull && dry_run f) (unknown f || several f)

-- flag words, and whether each is refused in a push and in a pull
abbrev pub words : List (ℕ × (Bool × Bool))
words =
    (0, (false, false))
    ∷ (1, (false, false))
    ∷ (2, (false, false))
    ∷ (3, (true, true))
    ∷ (4, (false, false))
    ∷ (5, (true, true))
    ∷ (6, (true, true))
    ∷ (7, (true, true))
    ∷ (8, (true, true))
    ∷ (0x4000_0000, (true, true))
    ∷ (0x8000_0000, (false, true))
    ∷ (0x8000_0004, (false, true))
    ∷ []

pub refusals : map (λ w. (refused_flags false w.0, refused_flags true w.0)) words ≡ map (λ w. w.1) words
unfolding refused_flags several unknown dry_run
refusals = refl
