-- `hours::is_hours` meets its contract.
use borrow.Author.Rules.{rules}
use mathlib.Core.Path.{◌≡◌, sym, ◌∙◌}
use native.Mathlib.Omega.{arith}
use borrow.Author.Tests.{eq-eqb, ne_eqb}
use lib.ListN.{take, drop}
use Rattle.protocol.specs.Bytes.{le}
use Rattle.protocol.proofs.Bytes.{end_whole}
use Rattle.id_table.proofs.Groups.{word_in}
use Rattle.hours.proofs.Days.{all-zero}
use Rattle.hours.specs.Settings.{is_hours}
use Rattle.hours.proofs.is_hours.Goals.{After-u32_at}
use Rattle.hours.proofs.is_hours.Goals as goal

-- the number in the first four bytes
flag : (c : After-u32_at) → le (take 4 c.args.bytes.now) ≡ c.u32_at.result
flag c = sym (c.u32_at.ensures ∙ word_in c.args.bytes.now 0 (omega arith))

pub returns-then-bytes-ne-HOURS : goal.returns-then-bytes-ne-HOURS
unfolding is_hours
returns-then-bytes-ne-HOURS c = rw (ne_eqb _ _ c.if-bytes-ne-HOURS.true)

pub returns-in-0 : goal.returns-in-0
unfolding is_hours
returns-in-0 c =
    rw (eq-eqb _ _ c.if-bytes-ne-HOURS.false, flag (goal.at.returns-in-0 c).After-u32_at, c.in-0.is) (let behind = end_whole c.args.bytes.now 4 (omega arith) in rw behind at c.are_zero.ensures ∙ all-zero (drop 4 c.args.bytes.now))

pub returns-in-1 : goal.returns-in-1
unfolding is_hours
returns-in-1 c =
    rw (eq-eqb _ _ c.if-bytes-ne-HOURS.false, flag (goal.at.returns-in-1 c).After-u32_at, c.in-1.is) c.are_days.ensures

pub returns-in_default : goal.returns-in_default
unfolding is_hours
returns-in_default c =
    rw (eq-eqb _ _ c.if-bytes-ne-HOURS.false, flag (goal.at.returns-in_default c).After-u32_at, ne_eqb c.u32_at.result 0 (search rules), ne_eqb c.u32_at.result 1 (search rules))
