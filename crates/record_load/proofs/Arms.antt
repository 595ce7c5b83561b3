-- What an arm of a `match` on a state says: the pending step of a known state, and the state of the last arm. Assumes nothing.
use mathlib.Core.Path.{◌≡◌, sym, ap, ◌∙◌}
use Prim.Native.Nat.{ℕ, zero, suc, ◌+◌, ◌≤◌}
use native.Mathlib.Omega.{arith}
use lib.ListN.{get_or}
use Rattle.record.specs.Fields.{pendings, pending_of}
use Rattle.session.specs.declared.Pending.TheVariants.{Idle}

-- the step in the k-th place, where the state is k
pub arm : (n : ℕ → ℕ) {state k : ℕ} → state ≡ n 7 → state ≡ k → get_or (pendings n) k Idle ≡ pending_of n
arm n e h = ap (λ (j : ℕ). get_or (pendings n) j Idle) (sym h ∙ e)

-- that a state is none of j in a row from k on, as the last arm of a `match` has it: a fact for each, behind those of X
abbrev pub NoneOf : ℕ → Type 0 → ℕ → ℕ → Type 0
NoneOf state X k zero = X
NoneOf state X k (suc j) = NoneOf state (X × (state ≡ k → ⊥)) (suc k) j

pub past : (state : ℕ) (X : Type 0) (k j : ℕ) → NoneOf state X k j → X × (k ≤ state → k + j ≤ state)
past state X k zero h = (h, λ l. omega arith)
past state X k (suc j) h =
    let r = past state (X × (state ≡ k → ⊥)) (suc k) j h in
    (r.0.0, λ l. let n = r.0.1 in let m = r.1 (omega arith) in omega arith)
