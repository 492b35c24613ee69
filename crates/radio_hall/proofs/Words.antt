-- what the proofs of this crate speak of, by the crate where it is defined
pub use Rattle.std.proofs.lemmas.Bool.Decides.{nat_tests}
pub use Rattle.std.proofs.lemmas.List.Elements.{All-cons, All-head, All-map, All-more, All-nil, All-tail}
pub use Rattle.std.proofs.lemmas.List.Sorted.{IsPermutation-sym, length_permutation, sum_by-IsPermutation}
pub use Rattle.std.proofs.lemmas.List.Sums.{sum_by-append, sum_by-cons, sum_by-take-le, sum_by_more}
pub use Rattle.std.specs.List.Sorted.{IsPermutation, IsSorted}
pub use Rattle.std.specs.Option.{is_some, option_and_then}
pub use Rattle.std.specs.Prelude.{if◌then◌else◌, slice_get}
pub use Rattle.radio_book.specs.Receipts.{ReceiptOf, receipt_entry}
pub use Rattle.radio_chronicle.specs.Lines.{line_entry}
pub use Rattle.radio_chronicle.specs.Stamps.{stamp}
pub use Rattle.radio_chronicle.specs.declared.line.ControlLine.{ControlLine}
pub use Rattle.radio_chronicle.specs.declared.stamp.Stamp.{Stamp}
pub use Rattle.radio_events.specs.declared.entry.Entry.{Entry}
pub use Rattle.radio_merge.proofs.Wholes.{All-whole}
pub use Rattle.radio_merge.specs.Merged.{Begins, IsNext, IsSubsequence, LeavesOut, Merged, PastCuts, Positions, TakesControl, TakesOwn}
pub use Rattle.radio_parts_mount.specs.Items.{own_entry}
pub use Rattle.radio_parts_mount.specs.declared.item.MountItem.{MountItem}
pub use Rattle.radio_parts_station.specs.World.{World, opening}
pub use Rattle.radio_hall.specs.Settling.{AllRise, AllStand, AreMerged, Falls, HasNoTwins, IsCounted, IsEachOnce, Rises, Shows, StandsIn, all_places, all_stamps, entry_at, is_same_place, own_at, own_places, place_order, places_of, serials_in, stamps, times}
