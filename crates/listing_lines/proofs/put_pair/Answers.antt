-- `listing_lines::put_pair` meets its contract.
use native.Mathlib.Omega.{arith}
use Rattle.listing_lines.proofs.Laws.{laid-laid}
use Rattle.listing_lines.proofs.put_pair.Goals as goal

pub returns : goal.returns
returns c =
    let high = c.hex_digit.ensures in
    let low = c.hex_digit-2.ensures in
    rw (← high, ← low) (laid-laid c.put_byte-half.ensures (omega arith) c.put_byte.ensures)
