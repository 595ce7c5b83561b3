-- `listing_lines::put_entry` meets its contract.
use native.Mathlib.Omega.{arith}
use Rattle.listing_lines.specs.Lines.{entry_line, entry_room}
use Rattle.listing_lines.proofs.Laws.{numbers-length, laid-laid, laid_in_lem, laid_out}
use Rattle.listing_lines.proofs.put_entry.Goals as goal

pub returns-then-free-lt35 : goal.returns-then-free-lt35
returns-then-free-lt35 c = let a = c.args in laid_out (entry_room a.name.now) a.out.now a.at _ (omega arith)

pub put_name-requires : goal.put_name-requires
put_name-requires c =
    let a = c.args in
    omega (arith, numbers-length a.stat.mode.0 a.stat.size a.stat.mtime (omega arith) (omega arith) (omega arith))

pub returns : goal.returns
unfolding entry_line
returns c =
    let a = c.args in
    let l = numbers-length a.stat.mode.0 a.stat.size a.stat.mtime (omega arith) (omega arith) (omega arith) in
    laid_in_lem (entry_room a.name.now) (omega arith)
    (laid-laid c.put_numbers-next.ensures (omega arith) c.put_name.ensures)
