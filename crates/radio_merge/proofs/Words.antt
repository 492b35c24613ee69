-- what the proofs of this crate speak of, by the crate where it is defined
pub use Rattle.std.proofs.lemmas.List.{get_or_default, take_all, take_more}
pub use Rattle.std.proofs.lemmas.Result.{IfOk-at_ok, IfOk-weaker}
pub use Rattle.std.specs.Prelude.{All, slice_get, slice_set, unwrap_or}
pub use Rattle.radio_chronicle.specs.Stamps.{stamp}
pub use Rattle.radio_chronicle.specs.declared.line.ControlLine.{ControlLine}
pub use Rattle.radio_chronicle.specs.declared.stamp.Stamp.{Stamp}
pub use Rattle.radio_events.specs.declared.entry.Entry.{Entry}
pub use Rattle.radio_parts_mount.specs.declared.item.MountItem.{MountItem}
pub use Rattle.radio_parts_station.specs.World.{World, opening}
pub use Rattle.radio_merge.specs.Merged.{Begins, IsMerge, IsSubsequence, LeavesOut, Merged, PastCuts, Positions, TakesControl, TakesOwn, beginning}
pub use Rattle.radio_merge.specs.Replays.{IsSoFar}
pub use Rattle.radio_merge.specs.declared.family.Family.{Family}
