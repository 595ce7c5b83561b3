pub mod Short
pub mod Wider
pub mod Compared
