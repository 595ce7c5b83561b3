-- `Whole`: what is held whole is answered at once, and what is not is read for. `Entries`, `Stats`: an entry and a stat as the code reads
-- and tells them. `Taken`: the crossing of a record that stands. `Arrivals`: a read that meets its need. `Listing`, `Replies`: a listing step
-- and a read that are taken at once are their crossings. `Ends`: where a read brings tail.
pub mod Whole
pub mod Entries
mod Stats
pub mod Taken
pub mod Arrivals
pub mod Ends
mod Listing
mod Replies
