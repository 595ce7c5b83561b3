-- `Starts`: a call that is started at once is its crossing.
mod Starts
