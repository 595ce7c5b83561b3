pub mod Crossing
pub mod System
pub mod Claim
pub mod Facts
pub mod Refusals
