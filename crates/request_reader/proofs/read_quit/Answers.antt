-- `request_reader::read_quit` meets its contract.
use mathlib.Core.Path.{sym}
use borrow.Author.Tests.{eq-eqb, ne_eqb}
use Rattle.protocol.specs.Requests.{bare, arg_ok, following, body_of}
use Rattle.request_reader.proofs.Steps.{on-refused, on-whole}
use Rattle.request_reader.proofs.read_quit.Goals as goal

pub returns-then-arg-eq0 : goal.returns-then-arg-eq0
unfolding arg_ok following body_of
returns-then-arg-eq0 c = sym (on-whole bare _ _ (eq-eqb _ _ c.if-arg-eq0.true) c.requires)

pub returns : goal.returns
unfolding arg_ok
returns c = sym (on-refused bare _ _ (ne_eqb _ _ c.if-arg-eq0.false))
