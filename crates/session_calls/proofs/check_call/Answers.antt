-- `session_calls::check_call` meets its contract.
use Rattle.session.specs.Calls.{is_idle, call_refusal}
use Rattle.session.proofs.Refused.{not_idle}
use mathlib.Core.Path.{sym, ap, ◌∙◌}
use native.Mathlib.Omega.{arith}
use Rattle.session_calls.proofs.check_call.Goals as goal

pub returns-then-misfit : goal.returns-then-misfit
unfolding call_refusal
returns-then-misfit c = grind arith

pub returns-then-s : goal.returns-then-s
unfolding call_refusal
returns-then-s c = grind arith

pub returns-in-Idle : goal.returns-in-Idle
unfolding call_refusal
returns-in-Idle c = simp (sym c.misfit.ensures ∙ c.if-misfit.false, c.if-s.false, ap is_idle c.in-Idle.is)

pub returns-in_default : goal.returns-in_default
unfolding call_refusal
returns-in_default c = simp (sym c.misfit.ensures ∙ c.if-misfit.false, c.if-s.false, not_idle _ c.in_default.not-Idle)
