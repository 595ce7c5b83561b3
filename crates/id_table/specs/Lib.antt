pub mod IdsFile
pub mod Places
pub mod Lent
pub mod Settings
pub mod Refusal
pub mod Claim
pub mod Facts
