-- The words that contracts of a hall's callers need, under one name, each as it is in the crate that it comes from.
pub use Rattle.radio_access.specs.Lists.{no_lists}
pub use Rattle.radio_parts_station.specs.World.{opening}
pub use Rattle.radio_workers.specs.Passes.{all_parts}
pub use Rattle.radio_connections.specs.Lines.{HasGiven, HasTaken}
