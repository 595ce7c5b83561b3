-- `Ids`: an id is compared as a number as it is by its bytes. `Turns`: the cases of a turn, and that it drops and keeps no more than was wanted.
pub mod Ids
pub mod Turns
