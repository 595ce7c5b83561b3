-- `request_refusal::check_flags` meets its contract.
use Rattle.protocol.specs.Refusal.{flag_refusal}
use Rattle.request_refusal.proofs.check_flags.Goals as goal

pub returns-then-refused : goal.returns-then-refused
unfolding flag_refusal
returns-then-refused c = rw (← c.refused.ensures, c.if-refused.true)

pub returns : goal.returns
unfolding flag_refusal
returns c = rw (← c.refused.ensures, c.if-refused.false)
