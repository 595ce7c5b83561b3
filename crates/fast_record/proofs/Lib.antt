-- `Laws`: when a record stands, by its numbers, and what is stored of a step.
pub mod Laws
pub mod Found
