-- `Facts`: the tables. `Ceiling`: the ceiling. `Rerun`: the same count without a walk.
pub mod Ceiling
pub mod Rerun
pub mod Facts
