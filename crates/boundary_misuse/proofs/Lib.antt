-- The session in its record refuses by the table. `Known`: what the host has seen is what the session is. `Loaded`: the session of any record.
-- `Table`: a step of the session is refused by the table, or let in. `Unchanged`: any record, refused. `Misuse`: event after event, from the opening on. `Settled`: what
-- opening wrote. `Cases`: facts on the table.
pub mod Known
pub mod Loaded
pub mod Table
pub mod Unchanged
pub mod Misuse
pub mod Settled
pub mod Cases
