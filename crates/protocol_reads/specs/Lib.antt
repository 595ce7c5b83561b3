pub mod Reads
pub mod Facts
