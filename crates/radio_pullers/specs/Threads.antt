-- What a relay's thread does with its server, from its first pull to its end.
use Rattle.std.specs.Prelude.{◌≡◌, ◌⊎◌, ℕ, [], Option}
use Rattle.radio_events.specs.declared.event.Event.{Event}
use Rattle.radio_events.specs.Servers.{Steps}
use Rattle.radio_masters.specs.declared.mount_pull.PullTurn.{PullTurn}
use Rattle.radio_masters.specs.declared.mount_pull.PullTurn.TheVariants.{Running}
use Rattle.radio_masters.specs.Pulls.{IsPullTurn, PullOver}
use Rattle.radio_relay.specs.Course.{GoesDown, RefusesDown}
use Rattle.radio_relay.specs.Pulling.{pulling_begun}
use Rattle.radio_relay.specs.Request.{request_text}
use Rattle.radio_settings_values.specs.declared.settings.RelaySetting.{RelaySetting}

-- a pull of a relay as it begins: nothing has come, its request is still to be written, and its line has given and taken nothing
pub record IsNewPull (relay : RelaySetting) (pull : PullOver) : Type 0 where
  pub is_begun : pull.relay ≡ pulling_begun relay.local_mount
  pub request : pull.outgoing ≡ request_text relay
  pub given : pull.given ≡ []
  pub taken : pull.taken ≡ []
  pub front : pull.front ≡ []

module _ {S : Type 0} (steps : Steps S) where
  -- a pull had turns by which it went on, each from the state in which the one before has left it
  pub data HasGoneOn (pull : PullOver) (from : S) : PullOver → S → Type 0 where
    no_turn : HasGoneOn pull from pull from
    one_turn : (mid last : PullOver) (between to : S) → HasGoneOn pull from mid between → IsPullTurn steps mid between Running last to
        → HasGoneOn pull from last to

  -- and then its last turn, unless it was to stop before that
  pub record HasHadTurns (pull : PullOver) (from : S) (last : PullOver) (to : S) : Type 0 where
    pub mid : PullOver
    pub between : S
    pub goes_on : HasGoneOn pull from mid between
    pub ends : ((last ≡ mid) × (to ≡ between)) ⊎ ((turn : PullTurn) × IsPullTurn steps mid between turn last to)

module _ {S : Type 0} (steps : Steps S) (refuses : S → Event → Type 0) where
  -- at the end of its pull a relay that is up goes down, unless memory is refused for that
  -- rule: Relay goes down
  abbrev pub IsLetDown : Option ℕ → S → S → Type 0
  IsLetDown number from to = GoesDown steps number from to ⊎ ((to ≡ from) × RefusesDown refuses number from)

  -- one pull of a relay: it begins on a new line, has turns up to its end, and the relay goes down
  pub record IsPullOf (relay : RelaySetting) (from to : S) : Type 0 where
    pub first : PullOver
    pub last : PullOver
    pub mid : S
    pub begins : IsNewPull relay first
    pub turns : HasHadTurns steps first from last mid
    pub ends : IsLetDown last.relay.number mid to

  -- What a relay's thread has done: pulls of its relay, one after another, and nothing else.
  pub data HasPulled (relay : RelaySetting) (first : S) : S → Type 0 where
    no_pull : HasPulled relay first first
    one_pull : (from to : S) → HasPulled relay first from → IsPullOf relay from to → HasPulled relay first to
