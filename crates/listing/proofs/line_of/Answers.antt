-- `listing::line_of` meets its contract.
use mathlib.Core.Path.{sym, ap}
use Rattle.listing.specs.Steps.{line_of}
use Rattle.listing.proofs.line_of.Goals as goal

pub returns-in-EntryV1 : goal.returns-in-EntryV1
returns-in-EntryV1 c = sym (ap line_of c.in-EntryV1.is)

pub returns-in-Refused : goal.returns-in-Refused
returns-in-Refused c = sym (ap line_of c.in-Refused.is)
