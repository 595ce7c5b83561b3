pub mod Crossing
pub mod Crossings
pub mod ReadBack
pub mod Claim
pub mod Facts
