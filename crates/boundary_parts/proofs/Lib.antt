-- `Replies`: a reply that fits names a part inside. `Bounds`: so does every crossing, of any record.
pub mod Replies
pub mod Bounds
