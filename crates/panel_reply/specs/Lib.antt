pub mod Replies
pub mod Facts
