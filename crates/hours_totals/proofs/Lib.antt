-- `Layer`: the functions do what the session behind the gate does. `Claim`: demand 3, and reads as the plain reader has them. `Logged`: the card in logs.
-- `Replied`: the reads in the last reply of each call. `Steps`: a step on any record. `Card`: the card, event by event. `Misuse`: openings, and refusals.
-- `Facts`, `Refusals`: the tables.
pub mod Layer
pub mod Claim
pub mod Logged
pub mod Replied
pub mod Steps
pub mod Card
pub mod Misuse
pub mod Facts
pub mod Refusals
