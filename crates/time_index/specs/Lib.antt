pub mod Index
pub mod Slots
pub mod Crossing
pub mod Claim
pub mod Logged
pub mod Facts
