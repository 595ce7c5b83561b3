-- `listing_lines::put_name` meets its contract.
use native.Mathlib.Omega.{arith}
use Rattle.listing_lines.proofs.Laws.{hex_length, laid-laid}
use Rattle.listing_lines.proofs.put_name.Goals as goal

pub put_byte-requires : goal.put_byte-requires
put_byte-requires c =
    let a = c.args in
    omega (arith, hex_length a.name.now)

pub returns : goal.returns
returns c =
    let a = c.args in
    let h = hex_length a.name.now in
    let comma = c.put_byte-next.ensures in
    laid-laid (laid-laid comma (omega arith) c.put_hex-end.ensures) (omega arith)
    c.put_byte.ensures
