-- `listing_lines::put_decimal` meets its contract: what is written at the front of the lent end is laid from `at` on.
use native.Mathlib.Omega.{arith}
use Rattle.protocol.specs.Decimal.{decimal}
use Rattle.listing_lines.proofs.Laws.{end-laid, end-some}
use Rattle.listing_lines.proofs.put_decimal.Goals as goal

pub unwrap-requires : goal.unwrap-requires
unwrap-requires c =
    let a = c.args in
    let f = c.format_u32 in
    rw (end-some a.out.now a.at (decimal a.n) f.result f.new.out c.requires f.ensures)

pub overflow_add-result : goal.overflow_add-result
overflow_add-result c =
    let a = c.args in
    let f = c.format_u32 in
    omega (arith, end-laid a.out.now a.at (decimal a.n) f.new.out c.unwrap.result c.requires (rw (← c.unwrap.ensures) f.ensures))

pub returns : goal.returns
returns c =
    let a = c.args in
    let f = c.format_u32 in
    end-laid a.out.now a.at (decimal a.n) f.new.out c.unwrap.result c.requires (rw (← c.unwrap.ensures) f.ensures)
