-- `Times`: the order of times. `Lists`, `Latest`: what the definitions mean. `Ranks`, `Queries`: the same by ranks in time order. `Placed`: slots in
-- bytes. `Kept`, `Telling`: slots and area that hold a list of items. `Known`, `Offering`: what replies offer. `Index`: the claim. `Logged`: the
-- same beside demand 3's logs. `Facts`: the tables.
pub mod Times
pub mod Lists
pub mod Latest
pub mod Ranks
pub mod Queries
pub mod Placed
pub mod Kept
pub mod Telling
pub mod Known
pub mod Offering
pub mod Index
pub mod Logged
pub mod Facts
