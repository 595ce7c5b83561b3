-- `record_load::ids` meets its contract.
use Rattle.record_load.proofs.ids.Goals as goal

pub returns : goal.returns
returns c = cc
