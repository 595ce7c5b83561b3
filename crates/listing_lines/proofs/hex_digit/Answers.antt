-- `listing_lines::hex_digit` meets its contract.
use mathlib.Core.Path.{refl}
use Rattle.listing_lines.specs.Lines.{hex_digit}
use Rattle.listing_lines.proofs.hex_digit.Goals as goal

pub returns : goal.returns
unfolding hex_digit
returns c = refl
