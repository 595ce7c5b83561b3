-- `features::Features::has` meets its contract.
use mathlib.Core.Bool.{Bool, false}
use mathlib.Core.List.{List, ◌∷◌}
use mathlib.Core.Path.{◌≡◌, sym}
use Prim.Native.Nat.{ℕ, suc, ◌≤◌, ◌<◌}
use native.Mathlib.Decide.{dec_lt}
use native.Mathlib.Omega.{arith}
use lib.ListN.{length, get_or, get_or-eq_default}
use Rattle.features.specs.Meaning.{listed}
use Rattle.features.proofs.Features.has.Goals as goal

-- no feature has the number 0, nor one past the last
none-at : (fs : List Bool) (n : ℕ) → (1 ≤ n → length fs < n) → false ≡ get_or (false ∷ fs) n false
none-at fs n h = go (dec_lt n 1)
  where
    go : Dec (n < 1) → false ≡ get_or (false ∷ fs) n false
    go (yes z) = let e : n ≡ 0 = omega arith in rw e
    go (no f) = sym (get_or-eq_default (false ∷ fs) false (h (omega arith)))

past : {n k : ℕ} → k ≤ n → (n ≡ k → ⊥) → suc k ≤ n
past h f = omega arith

pub returns-in_default : goal.returns-in_default
returns-in_default c =
    let a = c.args in
    let r = c.in_default.in_default-own.rest in
    none-at (listed a.self) a.number
    (λ h. past (past (past (past (past (past (past h r.0.0.0.0.0.0.1) r.0.0.0.0.0.1) r.0.0.0.0.1) r.0.0.0.1) r.0.0.1) r.0.1) r.1)
