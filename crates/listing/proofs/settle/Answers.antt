-- `listing::settle` meets its contract.
use mathlib.Core.Path.{ap, ◌∙◌}
use Rattle.listing.specs.Steps.{told_by}
use Rattle.listing.proofs.Steps.{ended_of, ended-unasked}
use Rattle.listing.proofs.settle.Goals as goal

pub returns-in-Read : goal.returns-in-Read
returns-in-Read c = ended_of _ _ c.in-Read.is (c.answer_of.ensures _ _ ∙ ap told_by c.fault.ensures)

pub returns-in_default : goal.returns-in_default
returns-in_default c = ended-unasked _ c.in_default.not-Read (c.answer_of-in_default.ensures _ _)
