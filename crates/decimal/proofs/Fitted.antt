-- The cases of `fitted`. Assumes nothing.
use Prim.Native.Nat.{ℕ, suc, ◌+◌, ◌≤◌, ◌<◌}
use mathlib.Core.List.{List}
use mathlib.Core.Path.{◌≡◌, sym, ap, ◌∙◌}
use native.Mathlib.Decide.{dec_le}
use native.Mathlib.Nat.{lt_of_not-le}
use native.Mathlib.Omega.{arith}
use borrow.Author.Tests.{le-leb, lt-leb}
use lib.ListN.{length, drop, length-drop}
use Rattle.std.specs.Prelude.{Option, Some, None}
use Rattle.decimal.specs.Fitted.{fitted}

abbrev sized : Option ℕ → ℕ
sized None = 0
sized (Some n) = suc n

-- a count that is there is not missing
pub some-none : {n : ℕ} → ◌≡◌ {A = Option ℕ} (Some n) None → ⊥
some-none {n} e = let z : suc n ≡ 0 = ap sized e in absurd (omega arith)

pub some-some : {n k : ℕ} → ◌≡◌ {A = Option ℕ} (Some n) (Some k) → n ≡ k
some-some {n} {k} e = let z : suc n ≡ suc k = ap sized e in omega arith

module _ (b : List ℕ) (at : ℕ) (m : List ℕ) where
  pub fitted-in : at + length m ≤ length b → fitted b at m ≡ Some (length m)
  unfolding fitted
  fitted-in fits = simp (le-leb _ _ fits)

  pub fitted-out : length b < at + length m → fitted b at m ≡ None
  unfolding fitted
  fitted-out short = simp (lt-leb _ _ short)

-- in the end of b from t on
pub end-fitted : (b : List ℕ) (t : ℕ) → t ≤ length b → (m : List ℕ) → fitted (drop t b) 0 m ≡ fitted b t m
end-fitted b t w m = go (dec_le (t + length m) (length b))
  where
    go : Dec (t + length m ≤ length b) → fitted (drop t b) 0 m ≡ fitted b t m
    go (yes h) = fitted-in (drop t b) 0 m (omega (arith, length-drop t b)) ∙ sym (fitted-in b t m h)
    go (no f) =
        let h = lt_of_not-le f in
        fitted-out (drop t b) 0 m (omega (arith, length-drop t b)) ∙ sym (fitted-out b t m h)
