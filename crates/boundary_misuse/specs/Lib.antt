pub mod Functions
pub mod Misuse
pub mod Claim
pub mod Settled
pub mod Cases
