-- A fact for each of the first numbers and one for all others; and so, by its state alone, whether a pending step's parts lie inside.
-- Assumes nothing.
use mathlib.Core.Bool.{Bool, true, ◌&&◌, and-eq-true_iff}
use mathlib.Core.Path.{◌≡◌, refl}
use Prim.Native.Nat.{ℕ, zero, suc}
use native.Mathlib.Omega.{arith}
use borrow.Author.Tests.{ne_eqb, lt-ltb}
use lib.Dec.{eqb, ltb, leb}
use lib.ListN.{get_or}
use Rattle.protocol.specs.Bytes.{pick}
use Rattle.session.specs.declared.Pending.TheVariants.{Idle}
use Rattle.record.specs.Fields.{pendings, pending_of, step_in, known}

-- ---- the numbers below k, and the others

abbrev pub Below : ℕ → (ℕ → Type 0) → Type 0
Below zero P = Unit {0}
Below (suc k) P = P 0 × Below k (λ n. P (suc n))

abbrev pub above : ℕ → ℕ → ℕ
above zero n = n
above (suc k) n = suc (above k n)

pub first : (k : ℕ) (P : ℕ → Type 0) → Below k P → ((n : ℕ) → P (above k n)) → (n : ℕ) → P n
first zero P f g n = g n
first (suc k) P f g zero = f.0
first (suc k) P f g (suc n) = first k (λ m. P (suc m)) f.1 g n

-- ---- a step's parts: a FAIL text in state 30, a path in states 1 to 11 but for 9, which sends data

abbrev pub state_in : (ℕ → ℕ) → (state : ℕ) → Bool
state_in n state =
    pick (eqb state 30) (leb (n 13) (n 0))
    (pick (ltb 11 state) true
    (pick (eqb state 0) true
    (pick (eqb state 9) true (eqb (n 10) 0))))

module _ (n : ℕ → ℕ) where
  abbrev Inside : ℕ → Type 0
  Inside state = step_in (n 0) (get_or (pendings n) state Idle) ≡ state_in n state

  every : (state : ℕ) → Inside state
  every =
      first 31 Inside (
        refl,
        (
          refl,
          (
            refl,
            (
              refl,
              (
                refl,
                (
                  refl,
                  (
                    refl,
                    (
                      refl,
                      (
                        refl,
                        (
                          refl,
                          (
                            refl,
                            (
                              refl,
                              (
                                refl,
                                (
                                  refl,
                                  (
                                    refl,
                                    (
                                      refl,
                                      (refl, (refl, (refl, (refl, (refl, (refl, (refl, (refl, (refl, (refl, (refl, (refl, (refl, (refl, (refl, tt))))))))))))))),
                                    ),
                                  ),
                                ),
                              ),
                            ),
                          ),
                        ),
                      ),
                    ),
                  ),
                ),
              ),
            ),
          ),
        ),
      )
      (λ k. rw (ne_eqb (above 31 k) 30 (omega arith), lt-ltb 11 (above 31 k) (omega arith)))

  pub step-state : step_in (n 0) (pending_of n) ≡ state_in n (n 7)
  step-state = every (n 7)

  pub known-parts : known n ≡ true → step_in (n 0) (pending_of n) ≡ true
  unfolding known
  known-parts e = ((and-eq-true_iff (ltb (n 5) 128 && ltb (n 6) 2 && ltb (n 7) 31 && ltb (n 8) 2) (step_in (n 0) (pending_of n))).0 e).1
