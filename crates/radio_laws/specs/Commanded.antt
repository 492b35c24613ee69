-- Which clients may give a command, what it does, and what it leaves as it is.
use Rattle.std.specs.Prelude.{◌≡◌, ◌⊎◌, ◌↔◌, ℕ, ◌+◌, true, false, List, [], Option, Some, None}
use Rattle.std.specs.Str.{bytes_eq}
use Rattle.radio_policy.specs.declared.rule.Rule.TheVariants.{Killed, SourceKilled, ListenerPassword}
use Rattle.radio_addr.specs.declared.peer.Peer.{Peer}
use Rattle.radio_creds.specs.Credentials.{Credentials}
use Rattle.md5.specs.Md5.{md5}
use Rattle.radio_addr.specs.declared.address.Address.{Address}
use Rattle.radio_access.specs.Lists.{passes, lets_in, has_users, has_user_at}
use Rattle.radio_settings_values.specs.Options.{options_for}
use Rattle.radio_seats_rows.specs.declared.seat.Seat.{Seat}
use Rattle.radio_seats_rows.specs.Seats.{seat_of, count_at}
use Rattle.radio_events.specs.declared.command.Asked.TheVariants.{Command as Asks}
use Rattle.radio_events.specs.declared.command.Command.{Command as TheCommand}
use Rattle.radio_events.specs.declared.command.Command.TheVariants.{MoveClients, KillClient, KillSource, SetTitle, SetFallback, AddUser, DeleteUser}
use Rattle.radio_events.specs.declared.command.CommandRequest.{CommandRequest}
use Rattle.radio_events.specs.declared.event.Event.{Event}
use Rattle.radio_events.specs.declared.event.Event.TheVariants.{Command}
use Rattle.radio_events.specs.declared.reply.Reply.TheVariants.{Text as SaysText}
use Rattle.radio_events.specs.declared.text.ReplyText.{ReplyText}
use Rattle.radio_events.specs.declared.text.ReplyText.TheVariants.{Done, Moved, Ended as EndedText}
use Rattle.radio_events.specs.Texts.{IsShort}
use Rattle.radio_parts_station.specs.declared.standing.Standing.TheVariants.{Undecided, Answered, Finished}
use Rattle.radio_parts.specs.Allowed.{IsCommanded}
use Rattle.radio_parts_station.specs.Fallbacks.{set_for}
use Rattle.radio_core.specs.Handing.{handed}
use Rattle.radio_parts_mount.specs.Sessions.{Session, session_of}
use Rattle.radio_parts.specs.Step.{reply_to, world_after}
use Rattle.radio_parts_station.specs.World.{World, standing_of}
use Rattle.radio_laws.specs.Walks.{FallsBack}

-- the user and the password of the admin, byte for byte
pub record IsTheAdmins (w : World) (pair : Credentials) : Type 0 where
  pub user : pair.user ≡ w.station.settings.access.admin.username
  pub password : pair.password ≡ w.station.settings.access.admin.password

-- or those of the mount's source
pub record IsTheSources (w : World) (mount : List ℕ) (pair : Credentials) : Type 0 where
  pub user : pair.user ≡ (options_for w.station.settings mount).source.username
  pub password : pair.password ≡ (options_for w.station.settings mount).source.password

-- the admin may give every command, and the source of a mount those that set a title or a fallback there
-- rule: Admin password; Who may command
pub data MayGive (w : World) (pair : Credentials) : TheCommand → Type 0 where
  AsTheAdmin : (command : TheCommand) → IsTheAdmins w pair → MayGive w pair command
  ItsTitle : (mount text : List ℕ) → IsTheSources w mount pair → MayGive w pair (SetTitle mount text)
  ItsFallback : (mount : List ℕ) (fallback : Option (List ℕ)) → IsTheSources w mount pair → MayGive w pair (SetFallback mount fallback)

-- the mount has a live source
abbrev pub IsLive : World → List ℕ → Type 0
IsLive w mount = (session : Session) × (session_of w.station.live mount ≡ Some session)

-- what a command needs is there: a live mount. To move its listeners, there is another live one; to finish a listener, it sits there.
-- To change users, a mount has users, live or not; to delete a user, it is one of them
-- rule: Commands are done
abbrev pub HasTarget : World → TheCommand → Type 0
HasTarget w (MoveClients mount destination) = IsLive w mount × IsLive w destination × (mount ≡ destination → ⊥)
HasTarget w (KillClient mount listener) = IsLive w mount × (seat : Seat) × (seat_of w.seats listener ≡ Some seat) × (seat.mount ≡ mount)
HasTarget w (KillSource mount) = IsLive w mount
HasTarget w (SetTitle mount text) = IsLive w mount
HasTarget w (SetFallback mount fallback) = IsLive w mount
HasTarget w (AddUser mount user password) = has_users w.station.lists mount ≡ true
HasTarget w (DeleteUser mount user) = has_user_at w.station.lists mount user ≡ true

-- a client that has asked for nothing yet, and may give the command, reads that it was done if what it needs is
-- there
-- rule: Commands are done
abbrev pub WhoMayIsServed : World → Type 0
WhoMayIsServed w = (asked : CommandRequest) (peer : Peer) (command : TheCommand) (pair : Credentials) → standing_of w asked.id ≡ Undecided peer
    → asked.asked ≡ Asks command → asked.pair ≡ Some pair → MayGive w pair command → HasTarget w command
    → (text : ReplyText) × (reply_to w (Command asked) ≡ SaysText text) × IsShort text

-- a command was given by one who may, and what it needs was there
pub record IsGivenByRight (w : World) (event : Event) : Type 0 where
  pub asked : CommandRequest
  pub is_event : event ≡ Command asked
  pub command : TheCommand
  pub is_asked : asked.asked ≡ Asks command
  pub pair : Credentials
  pub sent : asked.pair ≡ Some pair
  pub may : MayGive w pair command
  pub there : HasTarget w command

-- only a client that may give a command reads that it was done, if what it needs was there
-- rule: Who may command
abbrev pub OnlyWhoMayCommands : World → Event → Type 0
OnlyWhoMayCommands w event = (text : ReplyText) → reply_to w event ≡ SaysText text → IsShort text → IsGivenByRight w event

-- a source is finished by a command that ends its session
pub record IsSourceKilled (w later : World) (mount : List ℕ) : Type 0 where
  pub session : Session
  pub was_live : session_of w.station.live mount ≡ Some session
  pub is_over : session_of later.station.live mount ≡ None
  pub has_finished : standing_of later session.number ≡ Finished SourceKilled

-- a listener at a mount whose users have changed keeps its seat if they let it in, and else has lost it by `listener-password`
pub data FaresByUsers (later : World) (mount : List ℕ) (id : ℕ) (seat : Seat) : Type 0 where
  IsLetIn : lets_in later.station.lists mount seat.pair ≡ true → seat_of later.seats id ≡ Some seat → FaresByUsers later mount id seat
  IsShutOut : lets_in later.station.lists mount seat.pair ≡ false → seat_of later.seats id ≡ None → standing_of later id ≡ Finished ListenerPassword
      → FaresByUsers later mount id seat

-- the users of the mount have changed. The text says how many have lost their seats there, and each fares by the users as they are now
pub record HaveChanged (w : World) (event : Event) (mount : List ℕ) : Type 0 where
  pub count : ℕ
  pub told : reply_to w event ≡ SaysText (EndedText count)
  pub counted : count_at (world_after w event).seats mount + count ≡ count_at w.seats mount
  pub fares : (id : ℕ) (seat : Seat) → seat_of w.seats id ≡ Some seat → seat.mount ≡ mount → FaresByUsers (world_after w event) mount id seat

-- this user is let in with what has the MD5 digest of this password
abbrev pub HasPassword : World → List ℕ → List ℕ → List ℕ → Type 0
HasPassword w mount user password = (pair : Credentials) → pair.user ≡ user
    → (lets_in w.station.lists mount (Some pair) ≡ true) ↔ (md5 pair.password ≡ md5 password)

-- this user is let in with nothing
abbrev pub IsNoUser : World → List ℕ → List ℕ → Type 0
IsNoUser w mount user = (pair : Credentials) → pair.user ≡ user → lets_in w.station.lists mount (Some pair) ≡ false

-- the command has done what it is for, and its reply is true: as many listeners have moved, or have finished, as the text says
-- rule: Killed; Commands are done
abbrev pub HasDone : World → Event → TheCommand → Type 0
HasDone w event (MoveClients mount destination) = (count : ℕ) × (reply_to w event ≡ SaysText (Moved count))
    × (count_at w.seats destination + count ≡ count_at (world_after w event).seats destination)
HasDone w event (KillClient mount listener) = (reply_to w event ≡ SaysText Done) × (standing_of (world_after w event) listener ≡ Finished Killed)
    × (seat_of (world_after w event).seats listener ≡ None)
HasDone w event (KillSource mount) = (reply_to w event ≡ SaysText Done) × IsSourceKilled w (world_after w event) mount
HasDone w event (SetTitle mount text) = (reply_to w event ≡ SaysText Done) × (session : Session) × (session_of w.station.live mount ≡ Some session)
    × (session_of (world_after w event).station.live mount ≡ Some (record session { title = Some text }))
HasDone w event (SetFallback mount fallback) = (reply_to w event ≡ SaysText Done)
    × ((next : List ℕ) → FallsBack (world_after w event) mount next ↔ (fallback ≡ Some next))
HasDone w event (AddUser mount user password) = HaveChanged w event mount × HasPassword (world_after w event) mount user password
HasDone w event (DeleteUser mount user) = HaveChanged w event mount × IsNoUser (world_after w event) mount user

-- the mount that a command names, from which it moves and at which it kills or sets something
abbrev pub mount_of : TheCommand → List ℕ
mount_of (MoveClients mount destination) = mount
mount_of (KillClient mount listener) = mount
mount_of (KillSource mount) = mount
mount_of (SetTitle mount text) = mount
mount_of (SetFallback mount fallback) = mount
mount_of (AddUser mount user password) = mount
mount_of (DeleteUser mount user) = mount

-- all else is as it was. At other mounts these are the sessions with their titles, the listeners, their fallbacks, and who is let in.
-- The addresses that are let in and the settings stay too
-- rule: Commands are done
pub record StaysBeside (w later : World) (mount : List ℕ) : Type 0 where
  pub sessions : (other : List ℕ) → bytes_eq mount other ≡ false → session_of later.station.live other ≡ session_of w.station.live other
  pub seats : (id : ℕ) (seat : Seat) → seat_of w.seats id ≡ Some seat → bytes_eq mount seat.mount ≡ false → seat_of later.seats id ≡ Some seat
  pub fallbacks : (other : List ℕ) → bytes_eq mount other ≡ false → set_for later.station.fallbacks other ≡ set_for w.station.fallbacks other
  pub settings : later.station.settings ≡ w.station.settings
  pub users : (other : List ℕ) (pair : Option Credentials) → bytes_eq mount other ≡ false
      → lets_in later.station.lists other pair ≡ lets_in w.station.lists other pair
  pub addresses : (peer : Address) → passes later.station.lists peer ≡ passes w.station.lists peer
  pub time : later.station.time ≡ w.station.time

-- a command that the policy allows is done, its client is answered, and nothing changes beyond the mount that it names
pub record IsCommandKept (w : World) (event : Event) (command : TheCommand) (id : ℕ) : Type 0 where
  pub done : HasDone w event command
  pub answered : standing_of (world_after w event) id ≡ Answered
  pub beside : StaysBeside w (world_after w event) (mount_of command)

-- rule: Commands are done
abbrev pub CommandsAreKept : World → Event → Type 0
CommandsAreKept w event = (command : TheCommand) (c : IsCommanded w event command) → IsCommandKept w event command c.asked.id

-- a listener that a command has finished gets nothing from then on, whatever happens
-- rule: Killed
abbrev pub KilledHearNothing : World → Event → Type 0
KilledHearNothing w event = (mount : List ℕ) (id : ℕ) → IsCommanded w event (KillClient mount id) → (more : List Event)
    → handed (world_after w event) more id ≡ []

-- what was set for a mount stays set, whatever happens, until a command sets another fallback for it
-- rule: Fallbacks
abbrev pub FallbacksStay : World → Event → Type 0
FallbacksStay w event = (mount : List ℕ) → (set_for (world_after w event).station.fallbacks mount ≡ set_for w.station.fallbacks mount)
    ⊎ ((fallback : Option (List ℕ)) × IsCommanded w event (SetFallback mount fallback))
