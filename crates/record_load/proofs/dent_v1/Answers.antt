-- `record_load::dent_v1` meets its contract.
use Rattle.record_load.proofs.dent_v1.Goals as goal

pub returns : goal.returns
returns c = cc
