-- A layer does what the engine inside does. `Refused`, `Unread`: what a faithful log says of refusals, and of what is unread. `Runs`: runs and logs of a
-- layer. `Claims`: so does what is claimed against every host.
pub mod Refused
pub mod Unread
pub mod Runs
pub mod Claims
