-- `totals_taken::takes_read` meets its contract.
use mathlib.Core.Path.{sym, ◌∙◌}
use Rattle.totals_taken.proofs.Tests.{tail-in}
use Rattle.totals_taken.proofs.takes_read.Goals as goal

pub awaits_read-requires : goal.awaits_read-requires
awaits_read-requires c = tail-in _ _ _ _ (sym c.admitted.ensures ∙ c.if-admitted.true)
