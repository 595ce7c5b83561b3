-- `Replied`: one reply, by the plain reader. `Dialogues`: lists of them. `Calls`: the
-- calls that they belong to. `Narrow`: the numbers of a stat. `Spoken`: what is said. `Heard`: what is heard. `ReadBack`: the claim.
-- `Facts`, `Crossings`: the tables.
pub mod Replied
pub mod Dialogues
pub mod Calls
pub mod Narrow
pub mod Spoken
pub mod Heard
pub mod ReadBack
pub mod Facts
pub mod Crossings
