-- `listing_lines::put_field` meets its contract.
use native.Mathlib.Omega.{arith}
use Rattle.listing_lines.proofs.Laws.{laid-laid}
use Rattle.listing_lines.proofs.put_field.Goals as goal

pub returns : goal.returns
returns c = laid-laid c.put_byte-next.ensures (omega arith) c.put_decimal.ensures
