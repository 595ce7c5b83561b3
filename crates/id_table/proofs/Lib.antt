pub mod Groups
pub mod Form
pub mod Tables
pub mod Laws
pub mod Facts
