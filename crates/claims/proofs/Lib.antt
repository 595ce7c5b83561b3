-- `Claims`: every theorem that is promised. `Exported`: what the seventeen exported functions meet. `Loading`: a file that is loaded, at the opening.
-- `Applied`: demand 3 at a host, and logs beside what the documents say. `Indexing`: the index at three replies.
-- `WholeSlots`: facts on whole slots. `Saying`: the panel's side at fifteen replies. `Counting`: reads and the card at the hosts of `Applied`.
pub mod WholeSlots
pub mod Claims
pub mod Exported
pub mod Loading
pub mod Applied
pub mod Indexing
pub mod Saying
pub mod Counting
