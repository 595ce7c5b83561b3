-- `fast_push::store_push` meets its contract.
use mathlib.Core.Path.{◌∙◌}
use Rattle.fast_push.proofs.store_push.Goals as goal

pub returns : goal.returns
returns c = c.store_step.ensures ∙ rw (c.number-head.ensures, c.number-tail.ensures, c.number-lent.ensures)
