-- `Words`: numbers in eight bytes each. `Numbers`: bits, times and entries as numbers, and back. `Stored`: a session, stored and loaded again.
-- `States`: a fact of every state, from a table; whether a step's parts lie inside, by its state.
pub mod Words
pub mod Numbers
pub mod Stored
pub mod States
