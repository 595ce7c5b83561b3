pub mod Facts
pub mod Files
pub mod Slots
pub mod Cut
pub mod Scan
pub mod Days
pub mod Lent
pub mod Laws
