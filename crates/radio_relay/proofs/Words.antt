-- what the proofs of this crate speak of, by the crate where it is defined
pub use Rattle.std.proofs.lemmas.Bool.{and_from, and_parts, cases_lt, cond-false, false≢true, le-leb, le-ltb, leb-true, lt-leb, lt-ltb, ne_eqb, not-true}
pub use Rattle.std.proofs.lemmas.Grind.{flat_map-append}
pub use Rattle.std.proofs.lemmas.List.{drop-append-le, map-append, nil_from_length, reverse-reverse, take_at}
pub use Rattle.std.specs.List.{concat, flat_map, list_all}
pub use Rattle.std.specs.Prelude.{IfOk, IfSome, codes, decimal, is_some}
pub use Rattle.std.specs.Vec.Iter.{into_iter_items}
pub use Rattle.percent_encoding.specs.Percent.{encode_byte, percent_encode_byte}
unfoldable pub use Rattle.percent_encoding.specs.Percent.{percent_encode}
pub use Rattle.percent_encoding.specs.declared.ascii_set.AsciiSet.{AsciiSet}
pub use Rattle.radio_events.specs.declared.event.Event.{Event}
pub use Rattle.radio_events.specs.declared.state.State.TheVariants.{Running, Shut}
pub use Rattle.radio_heads.specs.Laws.{HeadsLieWithin, IsStableReading, ReadingsAgree, ShortListenerIsReadBack, about_headers, interval_header, listener_parts, read_back, shown_header}
pub use Rattle.radio_heads.specs.Reading.{IsReading, IsUnfinished}
pub use Rattle.radio_heads.specs.Response.{ResponseParts, ShowsResponse}
pub use Rattle.radio_heads.specs.declared.outcome.Progress.{Progress}
pub use Rattle.radio_heads.specs.declared.outcome.Progress.TheVariants.{More, Whole}
pub use Rattle.radio_icy.specs.Bare.{bare, block_texts, texts_in}
pub use Rattle.radio_icy.specs.Items.{atoms_of, atoms_of_item}
pub use Rattle.radio_icy.specs.Titles.{HasNoUrlInside, title_of}
pub use Rattle.radio_icy.specs.Unweaving.{SoundByte, StreamItem, Unweaving, WholeText, after_feeding, after_pieces, atoms_of_piece, heard_by_pieces, new_unweaving}
pub use Rattle.radio_icy.specs.declared.items.Item.{Item}
pub use Rattle.radio_relay.specs.Answer.{header_interval, interval_in, interval_of, max_interval, shown_in_response}
pub use Rattle.radio_relay.specs.Course.{Asks, AsksAtMost, AsksIf, BringsAtMost, BringsItems, Follows, GoesDown, Onwards, OnwardsAtMost, Takes}
pub use Rattle.radio_relay.specs.Items.{Gathered, GivesItems, all_items, items_of, nothing_gathered, with_gathered_part, with_parts}
pub use Rattle.radio_relay.specs.Laws.{AreRelayable, PlainIsSound, RelaysLoseNothing, WovenIsBare, sound_of_parts, titles_in, titles_of_texts}
pub use Rattle.radio_relay.specs.Orders.{order_at, relayed_mounts, with_other_names}
unfoldable pub use Rattle.radio_relay.specs.Orders.{orders}
pub use Rattle.radio_relay.specs.Pulled.{GoesOn, IsPulled, IsPulledAt, PullProgress, Pulled, PulledPart, ShownPart, SoundPart, Stops, after_bytes, answer_pulled, goes_on, parts_heard, parts_of_atom, pulled_as, pulled_by_interval, stops, stream_parts, stream_pulled, stream_with, title_parts}
pub use Rattle.radio_relay.specs.Pulling.{MakingTakesMemory, NumberedState, Pulling, event_for, running_pull}
pub use Rattle.radio_relay.specs.StreamList.{stream_list_lines, with_names}
unfoldable pub use Rattle.radio_relay.specs.StreamList.{names_listed}
pub use Rattle.radio_relay.specs.declared.fault.PullFault.TheVariants.{BadHead, OutOfMemory}
pub use Rattle.radio_relay.specs.declared.items.PullItem.{PullItem}
pub use Rattle.radio_relay.specs.declared.items.PullItem.TheVariants.{Sound, Up}
pub use Rattle.radio_relay.specs.declared.pull.PullStage.{PullStage}
pub use Rattle.radio_relay.specs.declared.pull.PullStage.TheVariants.{Behind, Head, Over}
pub use Rattle.radio_relay.specs.declared.stream.PulledStream.{PulledStream}
