-- `listing_lines::put_numbers` meets its contract: a u32 has at most 11 octal and 10 decimal digits.
use mathlib.Core.List.{◌++◌}
use native.Mathlib.Omega.{arith}
use lib.ListN.{length-append}
use Rattle.protocol.specs.Bytes.{ascii}
use Rattle.protocol.specs.Decimal.{decimal}
use Rattle.protocol.specs.Modes.{octal}
use Rattle.protocol.proofs.Decimal.{decimal-length}
use Rattle.protocol.proofs.Modes.{octal-length}
use Rattle.listing_lines.proofs.Laws.{laid-laid}
use Rattle.listing_lines.proofs.put_numbers.Goals as goal

pub put_octal-first-requires : goal.put_octal-first-requires
put_octal-first-requires c = let a = c.args in omega (arith, octal-length a.mode (omega arith))

pub put_field-second-requires : goal.put_field-second-requires
put_field-second-requires c =
    let a = c.args in
    omega (arith, octal-length a.mode (omega arith), decimal-length a.size (omega arith))

pub put_field-requires : goal.put_field-requires
put_field-requires c =
    let a = c.args in
    omega (arith, octal-length a.mode (omega arith), decimal-length a.size (omega arith), decimal-length a.mtime (omega arith))

pub returns : goal.returns
returns c =
    let a = c.args in
    let x = octal-length a.mode (omega arith) in
    let y = decimal-length a.size (omega arith) in
    laid-laid
    (laid-laid c.put_octal-first.ensures (omega arith) c.put_field-second.ensures)
    (omega (arith, length-append (octal a.mode) (ascii "," ++ decimal a.size)))
    c.put_field.ensures
