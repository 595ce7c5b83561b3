-- `request_message::compose_rcv2` meets its contract.
use mathlib.Core.Path.{◌∙◌}
use Rattle.request_message.proofs.Laws.{begun-whole, rcv2-bytes}
use Rattle.request_message.proofs.compose_rcv2.Goals as goal

pub returns : goal.returns
returns c =
    let a = c.args in
    c.begin_v2.ensures.result_after ∙ begun-whole a.out.now _ _ (rcv2-bytes a.id a.path.now a.flags.0)
