-- Demand 3 of the session in its record. `Narrow`, `Steps`, `Reports`: every step keeps the widths of numbers. `Heard`: the host hears what was
-- told. `Carried`, `Logs`: the crossings on a stored session do what the core does on the session. `Demand3`: the claim.
pub mod Narrow
pub mod Steps
pub mod Reports
pub mod Heard
pub mod Carried
pub mod Logs
pub mod Demand3
pub mod Crossings
