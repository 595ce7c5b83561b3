-- `listing::next` meets its contract.
use mathlib.Core.Path.{ap, ◌∙◌}
use Rattle.listing.specs.Steps.{ended}
use Rattle.listing.proofs.next.Goals as goal

pub returns : goal.returns
returns c = c.settle.ensures ∙ ap ended c.next_entry-step.ensures
