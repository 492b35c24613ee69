-- By which rule a listener is denied what it asks for, if several hold.
use Rattle.std.specs.Prelude.{◌≡◌, ℕ, ◌<◌, true, false, List, Option, Some, None}
use Rattle.radio_policy.specs.declared.rule.Rule.{Rule}
use Rattle.radio_policy.specs.declared.rule.Rule.TheVariants.{BadMount, NoMount, NotLive, MountFull, ListenerPassword, UserTwice, FallbackDepth}
use Rattle.radio_creds.specs.Credentials.{Credentials}
use Rattle.radio_access.specs.Lists.{lets_in}
use Rattle.radio_events.specs.declared.event.Event.TheVariants.{Listen}
use Rattle.radio_events.specs.declared.event.ListenRequest.{ListenRequest}
use Rattle.radio_events.specs.declared.reply.Reply.TheVariants.{Deny}
use Rattle.radio_parts_mount.specs.Sessions.{Session}
use Rattle.radio_parts.specs.Step.{reply_to}
use Rattle.radio_parts_station.specs.Waiting.{heard_at}
use Rattle.radio_parts_station.specs.World.{World}
use Rattle.radio_laws.specs.Limits.{IsFullAt}
use Rattle.radio_laws.specs.LimitDenials.{HasUserAt}
use Rattle.radio_laws.specs.Walks.{ComesBy}

-- the mount has a source, or waits for one, and fewer listeners sit there than may
pub record HasRoomAt (w : World) (mount : List ℕ) : Type 0 where
  pub session : Session
  pub is_heard : heard_at w.station mount ≡ Some session
  pub not_full : IsFullAt w mount → ⊥

-- the rule that stops the walk of a listener that sent this pair, at this mount: of four rules the first that holds
-- rule: End of a walk
pub data StopsAt (w : World) (pair : Option Credentials) (mount : List ℕ) : Rule → Type 0 where
  HasNoSource : heard_at w.station mount ≡ None → StopsAt w pair mount NotLive
  IsFull : (session : Session) → heard_at w.station mount ≡ Some session → IsFullAt w mount → StopsAt w pair mount MountFull
  IsClosed : HasRoomAt w mount → lets_in w.station.lists mount pair ≡ false → StopsAt w pair mount ListenerPassword
  IsTaken : HasRoomAt w mount → lets_in w.station.lists mount pair ≡ true → HasUserAt w mount pair → StopsAt w pair mount UserTwice

-- the rule that denies a listener what it asks for
-- rule: Order for a listener
pub data IsTurnedAway (w : World) (asked : ListenRequest) : Rule → Type 0 where
  -- the path names no mount, or none that the server knows; of these the law says no more here
  ByPath : IsTurnedAway w asked BadMount
  ByName : IsTurnedAway w asked NoMount
  -- the mount that it asked for does not let it in, or has its user, even if that mount has no source or is full
  ByPair : lets_in w.station.lists asked.mount asked.pair ≡ false → IsTurnedAway w asked ListenerPassword
  ByUser : lets_in w.station.lists asked.mount asked.pair ≡ true → HasUserAt w asked.mount asked.pair → IsTurnedAway w asked UserTwice
  -- that mount lets it in, and one of the first ten mounts of its walk stops it; or ten mounts have passed the walk on
  OnItsWay : (rule : Rule) (steps : ℕ) (mount : List ℕ) → lets_in w.station.lists asked.mount asked.pair ≡ true → steps < 10
      → ComesBy w asked.mount steps mount → StopsAt w asked.pair mount rule → IsTurnedAway w asked rule
  TooFar : (mount : List ℕ) → lets_in w.station.lists asked.mount asked.pair ≡ true → ComesBy w asked.mount 10 mount → IsTurnedAway w asked FallbackDepth

-- a denied listener is denied by the rule that turns it away
abbrev pub WalksAreStoppedInOrder : World → ListenRequest → Type 0
WalksAreStoppedInOrder w asked = (rule : Rule) → reply_to w (Listen asked) ≡ Deny rule → IsTurnedAway w asked rule
