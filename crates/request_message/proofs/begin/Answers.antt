-- `request_message::begin` meets its contract.
use mathlib.Core.List.{◌++◌}
use native.Mathlib.Omega.{arith}
use borrow.Author.Rules.{rules}
use Rattle.protocol.specs.Messages.{word}
use Rattle.request_message.proofs.Laws.{front_bytes, begun-out, begin-puts}
use Rattle.request_message.proofs.begin.Goals as goal

pub returns-then-out-lent : goal.returns-then-out-lent
returns-then-out-lent c =
    let a = c.args in record { result_after = begun-out a.out.now (word a.id ++ word a.count ++ a.lent.now) a.rest (omega (arith, front_bytes a.id a.count a.lent.now)); upper_bound = search rules }

pub returns : goal.returns
returns c =
    let a = c.args in
    let h = c.write_header in record { result_after = cc (begin-puts a.out.now a.id a.count a.lent.now a.rest h.new.out h.result h.ensures (omega arith)); upper_bound = search rules }
