-- `Laws`: the cases of what a message carries.
pub mod Laws
