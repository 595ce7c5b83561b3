pub mod Needs
pub mod Fails
pub mod Wider
pub mod Compared
