-- `Crossings`: the cases of a crossing.
pub mod Crossings
