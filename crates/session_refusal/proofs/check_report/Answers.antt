-- `session_refusal::check_report` meets its contract.
use Rattle.session.proofs.Refused.{not_idle}
use Rattle.session.specs.Calls.{is_idle}
use Rattle.session.specs.Reports.{report_refusal}
use Rattle.std.proofs.lemmas.Bool.Decides.{nat_tests}
use mathlib.Core.Path.{ap}
use native.Mathlib.Omega.{arith}
use Rattle.session_refusal.proofs.check_report.Goals as goal

pub returns-then-misfit : goal.returns-then-misfit
unfolding report_refusal
returns-then-misfit c = grind arith

pub returns-in-Idle : goal.returns-in-Idle
unfolding report_refusal
returns-in-Idle c = grind (arith, ap is_idle c.in-Idle.is)

pub returns-in-Idle-2 : goal.returns-in-Idle-2
unfolding report_refusal
returns-in-Idle-2 c = grind (arith, ap is_idle c.in-Idle.is)

pub returns-in_default : goal.returns-in_default
unfolding report_refusal
returns-in_default c = grind (arith, nat_tests, not_idle _ c.in_default.not-Idle)

pub returns-in_default-2 : goal.returns-in_default-2
unfolding report_refusal
returns-in_default-2 c = grind (arith, nat_tests, not_idle _ c.in_default.not-Idle)

pub returns-in_default-3 : goal.returns-in_default-3
unfolding report_refusal
returns-in_default-3 c = grind (arith, nat_tests, not_idle _ c.in_default.not-Idle)
