-- `fast_request::is_path` meets its contract.
use Rattle.request_path.proofs.Laws.{none-by}
use Rattle.fast_request.proofs.is_path.Goals as goal

pub returns : goal.returns
returns c = rw (c.is_ok.ensures.value, none-by, c.check_path.ensures)
