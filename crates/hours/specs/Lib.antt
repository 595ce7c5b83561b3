pub mod File
pub mod Slots
pub mod Settings
pub mod Scan
pub mod Claim
pub mod Facts
