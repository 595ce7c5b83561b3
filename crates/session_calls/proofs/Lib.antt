-- `Laws`: the cases of opening, and of a call that is not refused by 3, 6 or 4.
pub mod Laws
