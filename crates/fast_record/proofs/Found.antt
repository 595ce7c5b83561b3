-- What is found is the number, and it is not 0. Assumes nothing.
use mathlib.Core.Path.{◌≡◌, refl, sym, ap, ◌∙◌}
use Prim.Native.Nat.{ℕ, zero, suc, ◌<◌}
use native.Mathlib.Omega.{arith}
use Rattle.std.specs.Prelude.{Option, Some, None, unwrap_or}
use Rattle.std.proofs.lemmas.Option.{none-some}
use Rattle.fast_record.specs.Found.{found}

pub found_none : {n : ℕ} → 0 ≡ n → None ≡ found n
found_none e = rw (sym e)

pub found-some : {k n : ℕ} → 0 < k → k ≡ n → Some k ≡ found n
found-some {k} h e = go k h ∙ rw e
  where
    go : (j : ℕ) → 0 < j → Some j ≡ found j
    go zero l = absurd (omega arith)
    go (suc j) l = refl

pub none-found : {r : Option ℕ} (n : ℕ) → r ≡ found n → r ≡ None → n ≡ 0
none-found zero e f = refl
none-found (suc n) e f = search (sym e ∙ f)

pub some_found : {r : Option ℕ} {k : ℕ} (n : ℕ) → r ≡ found n → r ≡ Some k → n ≡ k × 0 < k
some_found {k = k} zero e f = absurd (none-some k (sym e ∙ f))
some_found {k = k} (suc n) e f = let h : suc n ≡ k = ap (λ (o : Option ℕ). unwrap_or o 0) (sym e ∙ f) in (h, omega arith)
