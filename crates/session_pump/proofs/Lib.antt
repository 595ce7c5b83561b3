-- `Parts`: equal parts make equal wholes. `Hops`: what a turn leaves of a session that fits its buffers, and the turns one after another.
pub mod Parts
pub mod Hops
