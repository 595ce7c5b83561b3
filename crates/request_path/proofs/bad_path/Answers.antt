-- `request_path::bad_path` meets its contract: what is refused is bad.
use Rattle.protocol.proofs.Refusals.{paths-refused}
use Rattle.protocol.specs.Ids.{published}
use Rattle.request_path.proofs.Laws.{err-by}
use Rattle.request_path.proofs.bad_path.Goals as goal

pub returns : goal.returns
returns c = rw (c.is_err.ensures.value, err-by, c.check_path.ensures, paths-refused.reader published _)
