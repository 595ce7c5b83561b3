-- A report that is not refused by 3, 6 or 5: the session fits its buffers, and the pending step says what follows. Assumes nothing.
use Prim.Native.Nat.{ℕ}
use mathlib.Core.Path.{◌≡◌, ◌∙◌}
use Rattle.session_phases.proofs.Turns.{case}
use Rattle.session.proofs.Refused.{unless_in, let_in}
use Rattle.session.specs.Calls.{refused_or}
use Rattle.session.specs.Reports.{report_refusal, refusal_at}
use Rattle.session.specs.State.{St, Out, Good}
use Rattle.session.specs.declared.Pending.{Pending}

pub admitted : (s : St) (n : ℕ) → 0 ≡ refusal_at s n → Good s
unfolding report_refusal
admitted s n e = let_in s _ e

pub reported : (s : St) (j : ℕ) → 0 ≡ j → (f : Pending → Out) {p : Pending} {o : Out} → s.ses.pending ≡ p → o ≡ f p → o ≡ refused_or j s (f s.ses.pending)
reported s j e f g h = case f g h ∙ unless_in s _ j e
