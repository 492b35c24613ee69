-- what the proofs of this crate speak of, by the crate where it is defined
pub use Rattle.std.specs.Arc.{arc_value}
pub use Rattle.radio_settings_values.specs.declared.settings.RelaySetting.{RelaySetting}
pub use Rattle.radio_tries.specs.Tries.{Trials, due_of, is_wanted_relay, kept_at, queue, tried_at, waiting_of}
pub use Rattle.radio_tries.specs.Wishes.{Sorts, is_settings_relay, other_started_relays, own_of, started_by, stopped_by}
