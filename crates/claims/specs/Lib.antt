pub mod Example
pub mod Jobs
pub mod WholeSlots
pub mod Saying
