mod Puts
pub mod Times
