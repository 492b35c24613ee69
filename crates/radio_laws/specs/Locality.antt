-- What an event does depends on the mounts that it can reach, and on no other. States that agree on these answer it alike, and agree on them
-- still.
use Rattle.std.specs.Prelude.{◌≡◌, ◌↔◌, Bool, true, false, ℕ, List, Some}
use Rattle.radio_settings_values.specs.Options.{options_for}
use Rattle.radio_seats_rows.specs.declared.seat.Listener.{Listener}
use Rattle.radio_seats_rows.specs.declared.seat.Seat.{Seat}
use Rattle.radio_seats_rows.specs.Seats.{seat_of, last_mount, last_mount_of}
use Rattle.radio_parts_table.specs.Agree.{AllAgree}
use Rattle.radio_parts_mount.specs.Sessions.{Session, session_of}
use Rattle.radio_events.specs.declared.event.Event.{Event}
use Rattle.radio_events.specs.declared.event.Event.TheVariants.{Arrive, Source, Push, SourceEnd, Title, Listen, Draw, Command, Leave}
use Rattle.radio_events.specs.declared.event.Event.TheVariants.{RelayUp, RelayDown, Clock}
use Rattle.radio_events.specs.Events.{client_in}
use Rattle.radio_events.specs.declared.command.Asked.{Asked}
use Rattle.radio_events.specs.declared.command.Asked.TheVariants.{NoCommand, MissingArgument, Listing as AsksFor, Command as Asks}
use Rattle.radio_events.specs.declared.command.Command.TheVariants.{MoveClients, KillClient, KillSource, SetTitle, SetFallback, AddUser, DeleteUser}
use Rattle.radio_events.specs.declared.command.Listing.TheVariants.{Clients}
use Rattle.radio_parts_station.specs.declared.standing.Standing.TheVariants.{Feeds}
use Rattle.radio_parts.specs.Step.{reply_to, world_after}
use Rattle.radio_parts_station.specs.World.{World, standing_of}
use Rattle.radio_laws.specs.Shown.{IsPath}
use Rattle.radio_laws.specs.Walks.{FallsBack}
use Rattle.radio_settings_values.specs.declared.web.WebPath.TheVariants.{IcecastStatus}

-- In all that follows some mounts are within reach, and the others beyond it.

-- two sessions of one mount and one source; if the mount is within reach, they are the same
pub data SessionsAgree (within : List ℕ → Bool) (a b : Session) : Type 0 where
  SameSession : a ≡ b → SessionsAgree within a b
  FedBeyond : a.mount ≡ b.mount → a.number ≡ b.number → within a.mount ≡ false → SessionsAgree within a b

-- one listener, the same in both states, or beyond reach in each: it sits there, or sat there last
pub data ListenersAgree (within : List ℕ → Bool) (a b : Listener) : Type 0 where
  SameListener : a ≡ b → ListenersAgree within a b
  LastBeyond : a.id ≡ b.id → within (last_mount a.seating) ≡ false → within (last_mount b.seating) ≡ false → ListenersAgree within a b

-- The states agree within reach, and on what belongs to no mount: the moment, settings and lists, set fallbacks, clients and relays.
-- Beyond reach the same mounts are live, fed by the same sources. What these have sent, their titles, the sitters there, and which of them
-- have finished, may differ.
-- rule: Reach of a start
pub record AgreeWithin (within : List ℕ → Bool) (v w : World) : Type 0 where
  pub station : v.station ≡ record w.station { live = v.station.live }
  pub sessions : AllAgree (SessionsAgree within) v.station.live w.station.live
  pub listeners : AllAgree (ListenersAgree within) v.seats w.seats

abbrev pub IsAll : (List ℕ → Bool) → Type 0
IsAll within = (mount : List ℕ) → within mount ≡ true

-- a walk from a mount within reach stays within reach: so is each mount to which its listeners fall back
abbrev pub FallBackWithin : World → (List ℕ → Bool) → Type 0
FallBackWithin w within = (mount next : List ℕ) → within mount ≡ true → FallsBack w mount next → within next ≡ true

-- the mount on which a source or a relay comes up; if it calls its listeners home, they may sit at any mount
pub record ComesUpWithin (w : World) (within : List ℕ → Bool) (mount : List ℕ) : Type 0 where
  pub there : within mount ≡ true
  pub home : (options_for w.station.settings mount).listeners.fallback_override ≡ true → IsAll within

-- the mount from which a walk begins, and those by which it may come
pub record WalksWithin (w : World) (within : List ℕ → Bool) (mount : List ℕ) : Type 0 where
  pub there : within mount ≡ true
  pub onward : FallBackWithin w within

-- the mount that the client, or the relay, of this number feeds, if it feeds one
abbrev pub FeedsWithin : World → (List ℕ → Bool) → ℕ → Type 0
FeedsWithin w within id = (mount : List ℕ) → standing_of w id ≡ Feeds mount → within mount ≡ true

-- the mount that it feeds, and those by which its listeners may come once it has ended
abbrev pub EndsWithin : World → (List ℕ → Bool) → ℕ → Type 0
EndsWithin w within id = (mount : List ℕ) → standing_of w id ≡ Feeds mount → WalksWithin w within mount

-- the mount where the listener of this number sits, or sat last, if there is one
abbrev pub LastWithin : World → (List ℕ → Bool) → ℕ → Type 0
LastWithin w within id = (mount : List ℕ) → last_mount_of w.seats id ≡ Some mount → within mount ≡ true

-- what a command can reach, and what is seen in a listing; a fallback is no mount's own
abbrev pub AsksWithin : World → (List ℕ → Bool) → Asked → Type 0
AsksWithin w within NoCommand = Unit {0}
AsksWithin w within (MissingArgument by) = Unit {0}
AsksWithin w within (AsksFor (Clients mount)) = within mount ≡ true
AsksWithin w within (AsksFor listing) = IsAll within
AsksWithin w within (Asks (MoveClients mount destination)) = (within mount ≡ true) × (within destination ≡ true)
AsksWithin w within (Asks (KillClient mount listener)) = within mount ≡ true
AsksWithin w within (Asks (KillSource mount)) = WalksWithin w within mount
AsksWithin w within (Asks (SetTitle mount title)) = within mount ≡ true
AsksWithin w within (Asks (SetFallback mount fallback)) = Unit {0}
AsksWithin w within (Asks (AddUser mount user password)) = within mount ≡ true
AsksWithin w within (Asks (DeleteUser mount user)) = within mount ≡ true

-- a client that asks to listen to a mount walks from it. Icecast's status, if the client asks for it, shows all mounts
pub record HearsWithin (w : World) (within : List ℕ → Bool) (path : List ℕ) : Type 0 where
  pub walks : WalksWithin w within path
  pub status : IsPath w path IcecastStatus → IsAll within

-- the mounts that the event can reach, besides that of its client
abbrev pub ReachesWithin : World → (List ℕ → Bool) → Event → Type 0
ReachesWithin w within (Arrive peer) = Unit {0}
ReachesWithin w within (Source asked) = ComesUpWithin w within asked.mount
ReachesWithin w within (Push id block) = FeedsWithin w within id
ReachesWithin w within (SourceEnd id) = EndsWithin w within id
ReachesWithin w within (Title id text) = FeedsWithin w within id
ReachesWithin w within (Listen asked) = HearsWithin w within asked.mount
ReachesWithin w within (Draw id room) = Unit {0}
ReachesWithin w within (Command asked) = AsksWithin w within asked.asked
ReachesWithin w within (Leave id) = EndsWithin w within id
ReachesWithin w within (RelayUp mount shown) = ComesUpWithin w within mount
ReachesWithin w within (RelayDown id) = EndsWithin w within id
ReachesWithin w within (Clock ms) = IsAll within

-- what the event can reach is within reach: and if its client is a listener, the mount where that sits, or sat last
-- rule: Reach of a start; Reach of a block; Reach of an end; Reach of a listen; Reach of a listener
-- rule: Reach of a command; Reach of the clock
pub record IsWithinReach (w : World) (within : List ℕ → Bool) (event : Event) : Type 0 where
  pub reached : ReachesWithin w within event
  pub client : (id : ℕ) → client_in event ≡ Some id → LastWithin w within id

-- beyond reach each mount has the session that it had, and each listener has the seat that it had
pub record IsLeftAlone (within : List ℕ → Bool) (w later : World) : Type 0 where
  pub sessions : (mount : List ℕ) → within mount ≡ false → session_of later.station.live mount ≡ session_of w.station.live mount
  pub seats : (id : ℕ) (seat : Seat) → within seat.mount ≡ false → (seat_of later.seats id ≡ Some seat) ↔ (seat_of w.seats id ≡ Some seat)

-- states that agree on all that the event can reach answer it alike, and agree on that still
-- rule: Reach of a start
abbrev pub AnswersAlike : (List ℕ → Bool) → World → World → Event → Type 0
AnswersAlike within v w event = AgreeWithin within v w → IsWithinReach w within event
    → (reply_to v event ≡ reply_to w event) × AgreeWithin within (world_after v event) (world_after w event)

-- and what it cannot reach is left alone
-- rule: Beyond its reach
abbrev pub LeavesAlone : (List ℕ → Bool) → World → Event → Type 0
LeavesAlone within w event = IsWithinReach w within event → IsLeftAlone within w (world_after w event)
