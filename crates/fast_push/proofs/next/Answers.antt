-- `fast_push::next` meets its contract.
use mathlib.Core.Path.{ap}
use native.Mathlib.Omega.{arith}
use lib.ListN.{length}
use Rattle.session_sender.proofs.Laws.{carried-room}
use Rattle.fast_push.proofs.Pushes.{read_at_lem}
use Rattle.fast_push.proofs.next.Goals as goal

pub overflow_add-result : goal.overflow_add-result
overflow_add-result c = omega (arith, ap length c.carried-part.ensures, carried-room c.number-from.result c.args.lent.now)

pub returns : goal.returns
returns c = omega (arith, ap length (read_at_lem c.args.lent.now c.carried-part.ensures c.number-from.ensures), c.number-from.ensures)
