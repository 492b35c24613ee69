-- what the proofs of this crate speak of, by the crate where it is defined
pub use Rattle.std.proofs.lemmas.List.{append_assoc, length-take}
pub use Rattle.std.specs.Arc.{arc_value}
pub use Rattle.radio_settings_values.specs.declared.settings.RelaySetting.{RelaySetting}
pub use Rattle.radio_pullers.specs.Running.{Begun, IsChosen, pulled_mounts}
pub use Rattle.radio_pullers.specs.Threads.{HasGoneOn, HasHadTurns, HasPulled, IsLetDown, IsNewPull, IsPullOf, no_pull, no_turn, one_pull, one_turn}
