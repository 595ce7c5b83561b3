-- `hours_taken::unrefused` meets its contract.
use Rattle.request_refusal.proofs.Laws.{ok-checked}
use Rattle.hours_taken.proofs.unrefused.Goals as goal

pub returns : goal.returns
returns c = rw (c.is_ok.ensures.value, ok-checked, c.check_request.ensures)
