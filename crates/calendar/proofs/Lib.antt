pub mod Calendar
pub mod Crossing
pub mod Facts
