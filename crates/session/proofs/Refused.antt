-- A refusal by its number, or the step; a session that is not refused fits its buffers. Assumes nothing.
use Prim.Native.Nat.{ℕ, ◌<◌}
use mathlib.Core.Bool.{Bool, true, false}
use mathlib.Core.Path.{◌≡◌, refl}
use native.Mathlib.Omega.{arith}
use borrow.Author.Tests.{lt-ltb}
use lib.Dec.{eqb}
use lib.ListN.{length}
use Rattle.std.specs.Prelude.{Result, Ok, Err, is_ok}
use Rattle.protocol.specs.Bytes.{pick}
use Rattle.session.proofs.Misfit.{misfit-fits}
use Rattle.session.specs.Calls.{misfit, is_idle, refused_or}
use Rattle.session.specs.Misuse.{number_of, refused_by}
use Rattle.session.specs.State.{St, Out, out, refusing, Good}
use Rattle.session.specs.declared.Answer.TheVariants as A
use Rattle.session.specs.declared.Misuse.{Misuse}
use Rattle.session.specs.declared.Misuse.TheVariants as M
use Rattle.session.specs.declared.Pending.{Pending}
use Rattle.session.specs.declared.Pending.TheVariants.{Idle, Reading, Writing, Closing}

pub some-number : (m : Misuse) → 0 < number_of m
some-number M.ReceiveTooShort = omega arith
some-number M.MessageTooShort = omega arith
some-number M.Misplaced = omega arith
some-number M.Pending = omega arith
some-number M.NothingPending = omega arith
some-number M.Ended = omega arith
some-number M.BadCount = omega arith

-- what was found lets in where the number is 0
pub lets-in : {T : Type 0} (r : Result T Misuse) → is_ok r ≡ eqb (refused_by r) 0
lets-in (Ok x) = refl
lets-in (Err M.ReceiveTooShort) = refl
lets-in (Err M.MessageTooShort) = refl
lets-in (Err M.Misplaced) = refl
lets-in (Err M.Pending) = refl
lets-in (Err M.NothingPending) = refl
lets-in (Err M.Ended) = refl
lets-in (Err M.BadCount) = refl

pub not_idle : (p : Pending) → (p ≡ Idle → ⊥) → is_idle p ≡ false
not_idle Idle h = absurd (h refl)
not_idle (Reading p until lost) h = refl
not_idle (Writing q from k) h = refl
not_idle (Closing failed code) h = refl

module _ (s : St) where
  -- j is the number of the definition
  module _ (o : Out) (j : ℕ) where
    pub unless_out : (k : ℕ) → k ≡ j → 0 < k → out (refusing s.ses (A.Refused k)) s.rx s.msg ≡ refused_or j s o
    unless_out k e h = rw (← e, lt-ltb 0 k h)

    pub misused_out : (m : Misuse) → number_of m ≡ j → out (refusing s.ses (A.Refused (number_of m))) s.rx s.msg ≡ refused_or j s o
    misused_out m e = unless_out (number_of m) e (some-number m)

    pub unless_in : 0 ≡ j → o ≡ refused_or j s o
    unless_in e = rw (← e)

  pub let_in : (k : ℕ) → 0 ≡ pick (misfit s.ses (length s.rx) (length s.msg)) 3 k → Good s
  let_in k e = misfit-fits _ _ _ (go (misfit s.ses (length s.rx) (length s.msg)) e)
    where
      go : (t : Bool) → 0 ≡ pick t 3 k → t ≡ false
      go true f = absurd (omega (arith, f))
      go false f = refl
