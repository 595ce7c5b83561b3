-- `Pushes`: what follows an accepted write of a DATA message is its crossing.
mod Pushes
