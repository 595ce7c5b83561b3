-- `session_calls::check_open` meets its contract.
use native.Mathlib.Omega.{arith}
use Rattle.std.proofs.lemmas.Bool.Decides.{nat_tests}
use Rattle.session.specs.Calls.{open_refusal}
use Rattle.session_calls.proofs.check_open.Goals as goal

pub returns-then-capacity-lt8 : goal.returns-then-capacity-lt8
unfolding open_refusal
returns-then-capacity-lt8 c = grind (arith, nat_tests)

pub returns-then-message-capacity : goal.returns-then-message-capacity
unfolding open_refusal
returns-then-message-capacity c = grind (arith, nat_tests)

pub returns : goal.returns
unfolding open_refusal
returns c = grind (arith, nat_tests)
