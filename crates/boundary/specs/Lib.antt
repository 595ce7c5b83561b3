pub mod Told
pub mod Crossing
pub mod Heard
pub mod Boundary
pub mod Crossings
