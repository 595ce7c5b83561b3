-- Where tail comes to with the bytes that a read brought, as the code tells the cases apart. Assumes nothing.
use mathlib.Core.Bool.{Bool, true, false}
use mathlib.Core.List.{List}
use mathlib.Core.Path.{◌≡◌, refl, sym, ◌∙◌}
use Prim.Native.Nat.{ℕ, ◌+◌, ◌≤◌, ◌<◌}
use native.Mathlib.Omega.{arith}
use lib.ListN.{length}
use Rattle.std.specs.Prelude.{Option, Some, None}
use Rattle.fast_replies.specs.Direct.{met_by, end_of}
use Rattle.fast_replies.proofs.Arrivals.{met_of}
use Rattle.fast_record.proofs.Found.{none-found, some_found}
use Rattle.fast_record.specs.Found.{found}
use Rattle.fast_record.specs.Standing.{number_in}

module _ (rec rx : List ℕ) (k : ℕ) where
  pub end-out : met_by rec rx k ≡ false → 0 ≡ end_of rec rx k
  unfolding end_of
  end-out e = rw e

  pub end-in : met_by rec rx k ≡ true → number_in rec 3 + k ≡ end_of rec rx k
  unfolding end_of
  end-in e = rw e

  module _ (r : Option ℕ) (f : r ≡ found (end_of rec rx k)) where
    pub unmet : r ≡ None → met_by rec rx k ≡ false
    unmet z = go (met_by rec rx k) refl
      where
        go : (b : Bool) → met_by rec rx k ≡ b → b ≡ false
        go true p = let m = met_of rec rx k p in let i = end-in p in absurd (omega (arith, m.some, none-found (end_of rec rx k) f z, i))
        go false p = refl

    pub met_at : {e : ℕ} → r ≡ Some e → (met_by rec rx k ≡ true) × (e ≡ number_in rec 3 + k)
    met_at {e = e} z = let (h, l) = some_found (end_of rec rx k) f z in go (met_by rec rx k) refl h l
      where
        go : (b : Bool) → met_by rec rx k ≡ b → end_of rec rx k ≡ e → 0 < e → (b ≡ true) × (e ≡ number_in rec 3 + k)
        go true p h l = (refl, sym h ∙ sym (end-in p))
        go false p h l = let i = end-out p in absurd (omega (arith, h, i, l))

    pub met_within : {e : ℕ} → r ≡ Some e → number_in rec 3 ≤ length rx → e ≤ length rx
    met_within z l = let (m, e) = met_at z in let t = met_of rec rx k m in omega (arith, t.some, t.fits, e, l)
