-- `session_reports::read_in` meets its contract.
use Rattle.std.proofs.Common.{arith}
use Rattle.std.proofs.lemmas.Bool.Decides.{nat_tests}
use Rattle.recv_buf.proofs.Laws.{filled_in}
use Rattle.session.specs.Reports.{read_in}
use Rattle.session_reports.proofs.read_in.Goals as goal

pub returns-then-n-eq0 : goal.returns-then-n-eq0
unfolding read_in
returns-then-n-eq0 c = grind (arith, nat_tests)

pub returns-then-buf-s : goal.returns-then-buf-s
unfolding read_in
returns-then-buf-s c = grind (arith, nat_tests, filled_in)

pub read_to-requires : goal.read_to-requires
read_to-requires c = grind (arith, nat_tests, filled_in)

pub returns : goal.returns
unfolding read_in
returns c = grind (arith, nat_tests, filled_in)
