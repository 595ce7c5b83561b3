pub mod Counted
pub mod Facts
