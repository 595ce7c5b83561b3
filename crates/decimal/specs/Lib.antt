pub mod Meaning
pub mod Fitted
