mod Denials
mod Commands
mod Listings
mod Locality
mod Seats
mod Streams
mod Ends
mod Words
