-- The session's steps against the plain reader: what the buffers hold, the needs between two reads, a call against a host, every list
-- of calls, demand 3.
pub mod Misfit
pub mod Refused
pub mod Buf
pub mod Turns
pub mod Text
pub mod Tail
pub mod Writes
pub mod Run
pub mod Site
pub mod Follows
pub mod Sends
pub mod Data
pub mod Refusals
pub mod Calls
pub mod Accepts
pub mod Logs
pub mod Gated
pub mod Gate
pub mod Demand3
pub mod Places
pub mod Examples
pub mod Scripted
pub mod Resuming
