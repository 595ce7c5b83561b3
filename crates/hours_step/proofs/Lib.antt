-- `Steps`: the cases of a step. `Opening`: those of opening.
mod Steps
mod Opening
