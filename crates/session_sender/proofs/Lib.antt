-- `Laws`: what a message carries, how long it is and how many pieces it has, and the cases of `message_out` and `wrote_on`.
pub mod Laws
