-- `record_load::session` meets its contract.
use Rattle.record.specs.Fields.{session_of}
use Rattle.record_load.proofs.session.Goals as goal

pub returns : goal.returns
unfolding session_of
returns c = cc
