mod Calling
mod Standing
mod Deeds
mod Moments
mod Lingerings
mod Askings
pub mod DeedChains
mod Workings
mod TurnDeeds
mod Comings
mod RoomLemmas
