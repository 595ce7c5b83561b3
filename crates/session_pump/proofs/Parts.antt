-- Equal parts make equal wholes: a step beside its buffers; and a session that is guarded from buffers that it does not fit. Assumes nothing.
use mathlib.Core.List.{List}
use mathlib.Core.Path.{◌≡◌, ap}
use Prim.Native.Nat.{ℕ}
use Rattle.session.specs.declared.Session.{Session}
use Rattle.session.specs.declared.Stepped.{Stepped}
use Rattle.session.specs.State.{st, out, Half, half, beside}
use Rattle.session.proofs.Misfit.{misfit-fits, guarded-in}

module _ (rx : List ℕ) where
  pub half-eq : {r k : Stepped} → r ≡ k → half r rx ≡ half k rx
  half-eq e = ap (λ (z : Stepped). half z rx) e

  module _ (msg : List ℕ) where
    pub st-eq : {s k : Session} → s ≡ k → st s rx msg ≡ st k rx msg
    st-eq e = ap (λ (z : Session). st z rx msg) e

    pub out_eq : {r k : Stepped} → r ≡ k → out r rx msg ≡ out k rx msg
    out_eq e = ap (λ (z : Stepped). out z rx msg) e

pub beside-eq : (msg : List ℕ) {h k : Half} → h ≡ k → beside h msg ≡ beside k msg
beside-eq msg e = ap (λ (z : Half). beside z msg) e

-- a session that is no misfit fits its buffers, and the guard lets its step through
pub ruleset fitting = (misfit-fits, guarded-in)
