-- `request_message::compose_at` meets its contract: what is composed at the front of the lent end is composed from tail on.
use native.Mathlib.Omega.{arith}
use Rattle.protocol.specs.Messages.{bytes_of_request}
use Rattle.request.specs.Meaning.{meant}
use Rattle.request_message.specs.Composed.{only}
use Rattle.request_message.proofs.Laws.{placed_past, placed_end}
use Rattle.request_message.proofs.compose_at.Goals as goal

pub returns-then-buf-tail : goal.returns-then-buf-tail
returns-then-buf-tail c = placed_past _ _ _ (omega arith)

pub returns : goal.returns
returns c =
    let a = c.args in
    let m = bytes_of_request (only a.id) (meant a.q a.lent.now) in
    let r = c.compose in
    placed_end a.buf.now a.tail (omega arith) m r.new.out r.result r.ensures
