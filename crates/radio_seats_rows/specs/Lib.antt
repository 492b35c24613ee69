pub mod Seats
pub mod Guests
pub mod SeatTable
pub mod Mounts
pub mod Rows
pub mod Rests
pub mod Sent
