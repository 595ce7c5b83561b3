pub mod Calendar
pub mod Claim
pub mod Crossing
pub mod Facts
