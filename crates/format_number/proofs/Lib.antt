-- `Words`: laws of numbers in eight bytes each. `Numbers`: std's numbers of bytes and the protocol's.
pub mod Words
pub mod Numbers
