-- `fast_push::has_room` meets its contract.
use Rattle.fast_push.proofs.has_room.Goals as goal

pub returns : goal.returns
returns c = rw c.number.ensures
