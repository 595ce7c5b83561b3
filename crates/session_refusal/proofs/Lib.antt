-- `Laws`: a report that is not refused by 3, 6 or 5.
pub mod Laws
