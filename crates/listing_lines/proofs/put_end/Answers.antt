-- `listing_lines::put_end` meets its contract.
use native.Mathlib.Omega.{arith}
use lib.ListN.{length-append}
use Rattle.protocol.specs.Bytes.{ascii}
use Rattle.protocol.specs.Decimal.{decimal}
use Rattle.protocol.proofs.Decimal.{decimal-length}
use Rattle.listing_lines.specs.Lines.{end_line, end_room}
use Rattle.listing_lines.proofs.Laws.{laid-laid, laid_in_lem, laid_out}
use Rattle.listing_lines.proofs.put_end.Goals as goal

pub returns-then-saturating_sub-lt15 : goal.returns-then-saturating_sub-lt15
returns-then-saturating_sub-lt15 c = laid_out end_room _ _ (end_line c.args.number) (omega arith)

pub put_decimal-end-requires : goal.put_decimal-end-requires
put_decimal-end-requires c = let a = c.args in omega (arith, decimal-length a.number (omega arith))

pub put_byte-requires : goal.put_byte-requires
put_byte-requires c = let a = c.args in omega (arith, decimal-length a.number (omega arith))

pub returns : goal.returns
unfolding end_line
returns c =
    let a = c.args in
    let d = decimal-length a.number (omega arith) in
    laid_in_lem end_room (omega arith)
    (laid-laid
    (laid-laid c.put_text-next.ensures (omega arith) c.put_decimal-end.ensures)
    (omega (arith, length-append (ascii "end,") (decimal a.number))) c.put_byte.ensures)
