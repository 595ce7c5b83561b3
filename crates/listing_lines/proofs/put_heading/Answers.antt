-- `listing_lines::put_heading` meets its contract.
use native.Mathlib.Omega.{arith}
use Rattle.listing_lines.specs.Lines.{heading, heading_room}
use Rattle.listing_lines.proofs.Laws.{laid_in_lem, laid_out}
use Rattle.listing_lines.proofs.put_heading.Goals as goal

pub returns-then-saturating_sub-lt21 : goal.returns-then-saturating_sub-lt21
returns-then-saturating_sub-lt21 c = laid_out heading_room _ _ heading (omega arith)

pub returns : goal.returns
unfolding heading
returns c = laid_in_lem heading_room (omega arith) c.put_text.ensures
