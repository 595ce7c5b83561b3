pub mod Keys
pub mod Standing
