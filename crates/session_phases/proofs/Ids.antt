-- A header's id: four bytes are those of a number exactly where they spell it. Assumes nothing.
use mathlib.Core.Bool.{Bool, true, false}
use mathlib.Core.List.{List}
use mathlib.Core.Path.{◌≡◌, refl, sym, ap, ◌∙◌}
use Prim.Native.Nat.{ℕ, ◌+◌, ◌≤◌, ◌<◌}
use native.Mathlib.Decide.{ℕ_discrete}
use native.Mathlib.Omega.{arith}
use borrow.Author.Tests.{eq-eqb, ne_eqb}
use lib.Dec.{eqb}
use lib.ListN.{length, drop, length-drop}
use lib.Seq.{length-take-le}
use Rattle.protocol.specs.Bytes.{Bytes, le, bytes_of, same, number_at}
use Rattle.protocol.specs.Records.{id_at, u32_at}
use Rattle.protocol.proofs.Bytes.{bytes_drop, bytes_of-le, le-bytes_of, same_refl, same-eq}
use Rattle.protocol.proofs.Words.{bytes_take}

module _ (rx : List ℕ) (i : ℕ) (there : i + 4 ≤ length rx) (bytes : Bytes rx) (n : ℕ) (small : n < 0x1_0000_0000) where
  abbrev id : List ℕ
  id = id_at (drop i rx)

  four : length id ≡ 4
  four = length-take-le 4 (drop i rx) (omega (arith, length-drop i rx))

  -- bytes that spell the number are its bytes
  spelt : le id ≡ n → id ≡ bytes_of 4 n
  spelt e = sym (bytes_of-le id (bytes_take 4 (drop i rx) (bytes_drop i rx bytes))) ∙ cc (four, e)

  pub same_id : eqb (u32_at 0 (drop i rx)) n ≡ same id (bytes_of 4 n)
  unfolding number_at
  same_id = go (ℕ_discrete (le id) n) (same id (bytes_of 4 n)) refl
    where
      go : Dec (le id ≡ n) → (t : Bool) → same id (bytes_of 4 n) ≡ t → eqb (le id) n ≡ t
      go (yes h) t e = eq-eqb _ _ h ∙ sym (sym e ∙ ap (λ (l : List ℕ). same l (bytes_of 4 n)) (spelt h) ∙ same_refl (bytes_of 4 n))
      go (no f) true e = absurd (f (ap le (same-eq id (bytes_of 4 n) e) ∙ le-bytes_of 4 n (omega arith)))
      go (no f) false e = ne_eqb _ _ f
