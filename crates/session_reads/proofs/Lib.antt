pub mod Turns
pub mod Counted
pub mod Claims
pub mod Facts
