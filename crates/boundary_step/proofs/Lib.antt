-- `Opening`: the cases of opening into a record. `Reading`: the two ways of a read. `Again`: what was tried and not taken.
mod Opening
mod Reading
mod Again
