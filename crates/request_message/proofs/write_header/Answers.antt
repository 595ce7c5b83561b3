-- `request_message::write_header` meets its contract.
use mathlib.Core.List.{◌++◌}
use native.Mathlib.Omega.{arith}
use Rattle.protocol.specs.Messages.{word}
use Rattle.request_message.proofs.Laws.{header-bytes, placed-out, header-puts}
use Rattle.request_message.proofs.write_header.Goals as goal

pub returns-then-out-lt8 : goal.returns-then-out-lt8
returns-then-out-lt8 c =
    let a = c.args in
    placed-out a.out.now (word a.id ++ word a.arg) (omega (arith, header-bytes a.id a.arg))

pub returns : goal.returns
returns c =
    let a = c.args in
    cc (header-puts a.out.now a.id a.arg (omega arith))
