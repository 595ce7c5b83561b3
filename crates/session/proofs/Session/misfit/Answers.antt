-- `Session::misfit` meets its contract.
use native.Mathlib.Omega.{arith}
use Rattle.std.proofs.lemmas.Bool.Decides.{nat_tests}
use Rattle.session.specs.Calls.{misfit}
use Rattle.session.proofs.Session.misfit.Goals as goal

pub returns-then-self-lt8 : goal.returns-then-self-lt8
unfolding misfit
returns-then-self-lt8 c = grind (arith, nat_tests)

pub returns-else-self-lt8 : goal.returns-else-self-lt8
unfolding misfit
returns-else-self-lt8 c = grind (arith, nat_tests)
