-- `request_message::compose_lent` meets its contract.
use mathlib.Core.List.{◌++◌, append-nil}
use mathlib.Core.Path.{sym, ap, ◌∙◌}
use lib.ListN.{length}
use Rattle.protocol.specs.Messages.{word}
use Rattle.request_message.proofs.Laws.{begun-whole}
use Rattle.request_message.proofs.compose_lent.Goals as goal

pub returns : goal.returns
returns c =
    let a = c.args in
    c.begin.ensures.result_after
    ∙ begun-whole a.out.now _ _ (ap (λ l. word a.id ++ word (length a.lent.now) ++ l) (sym (append-nil a.lent.now)))
