-- What a relay's thread applies in one pull.
use Rattle.std.specs.Prelude.{◌≡◌, ℕ, List}
use Rattle.radio_events.specs.declared.event.Event.{Event}
use Rattle.radio_events.specs.Servers.{Chain, Steps}
use Rattle.radio_relay.specs.Applied.{PullCourse, PullSoFar}
use Rattle.radio_pullers.specs.Threads.{IsPullOf}
use Rattle.radio_settings_values.specs.declared.settings.RelaySetting.{RelaySetting}

module _ {S : Type 0} (steps : Steps S) where
  -- A pull for this mount, in which the master's answer gave these bytes, has a course. Only its events were applied, one after another.
  pub record HasItsCourse (mount given : List ℕ) (from to : S) : Type 0 where
    pub pull : PullSoFar
    pub course : PullCourse mount pull
    pub same_given : pull.given ≡ given
    pub chain : Chain steps from pull.entries to

  -- In any turns of one pull of a relay, the applied events are those of its course, by all bytes that its line gave.
  abbrev pub PullsMeanTheirBytes : (S → Event → Type 0) → Type 0
  PullsMeanTheirBytes refuses = (relay : RelaySetting) (from to : S) (is : IsPullOf steps refuses relay from to)
      → HasItsCourse relay.local_mount is.last.given from to
