mod Settled
mod Twins
mod Placed
mod Once
mod Weaving
mod Words
