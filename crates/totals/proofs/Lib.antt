-- `Behind`: a record with totals, taken apart. `Beside`: the reads in a reply. `Steps`: what holds of every step of the session inside. `Sizes`: its bytes keep their
-- length. `Refused`: where a refusal is heard. `Starts`: what a start tells. `Crosses`: functions that do what an engine does. `Cursor`: where the bytes held lie.
-- `Layer`: the functions on a record with totals do what the session does. `Held`, `Asks`, `Consumed`: numbers of a step. `Card`: every list of calls and reports.
-- `Claim`: opening, refusals on any record, what opening wrote, parts. `Facts`: the tables.
pub mod Behind
pub mod Beside
pub mod Steps
pub mod Sizes
pub mod Refused
pub mod Starts
pub mod Crosses
pub mod Cursor
pub mod Layer
pub mod Held
pub mod Asks
pub mod Consumed
pub mod Card
pub mod Claim
pub mod Facts
