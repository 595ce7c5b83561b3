-- `Asked`: the length of a piece, by what is asked or told. `Behind`: the numbers behind a session's bytes, and what is put there. `Steps`: the cases of
-- a step. `Opening`: those of opening.
mod Asked
pub mod Behind
pub mod Steps
pub mod Opening
