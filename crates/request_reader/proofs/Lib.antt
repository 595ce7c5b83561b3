pub mod Search
pub mod Parts
pub mod Text
pub mod Steps
pub mod Answers
