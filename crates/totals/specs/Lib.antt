pub mod Crossing
pub mod System
pub mod Card
pub mod Claim
pub mod Logged
pub mod Replied
pub mod Facts
