-- `Arms`: the arms of a `match` on a state. `Held`: what a record holds.
pub mod Arms
pub mod Held
