-- `hours_taken::push` meets its contract.
use borrow.Author.Tests.{eq-eqb, ne_eqb}
use Rattle.hours_taken.specs.Taken.{push_numbered}
use Rattle.hours_taken.proofs.push.Goals as goal

pub returns-then-call-eq-SEND : goal.returns-then-call-eq-SEND
unfolding push_numbered
returns-then-call-eq-SEND c = rw (eq-eqb c.args.call 7 c.if-call-eq-SEND.true)

pub returns : goal.returns
unfolding push_numbered
returns c = rw (ne_eqb c.args.call 7 c.if-call-eq-SEND.false)
