-- `Laws`: what is put back into the record and the slice.
pub mod Laws
