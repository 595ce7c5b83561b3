-- `Laws`: a report of what is not pending.
pub mod Laws
