-- What is denied, and that it is denied by the policy.
use Rattle.std.specs.Prelude.{◌≡◌, ℕ, true, false, List, Option, Some}
use Rattle.radio_policy.specs.declared.rule.Rule.{Rule}
use Rattle.radio_policy.specs.declared.rule.Rule.TheVariants.{AddressDenied, AddressNotAllowed, NoMount}
use Rattle.radio_policy.specs.Verdicts.{Denies}
use Rattle.radio_addr.specs.declared.peer.Peer.{Peer}
use Rattle.radio_creds.specs.Credentials.{Credentials}
use Rattle.radio_settings_values.specs.declared.settings.MountSetting.{MountSetting}
use Rattle.radio_settings_values.specs.declared.settings.RelaySetting.{RelaySetting}
use Rattle.radio_settings_values.specs.declared.web.WebPath.{WebPath}
use Rattle.radio_settings_values.specs.Options.{options_for}
use Rattle.radio_values.specs.declared.field.Shown.{Shown}
use Rattle.radio_access.specs.Lists.{is_denied, is_allowed}
use Rattle.radio_access.specs.ContentTypes.{is_refused_type}
use Rattle.radio_tables.specs.Lists.{Has}
use Rattle.radio_events.specs.declared.event.Event.{Event}
use Rattle.radio_events.specs.declared.event.Event.TheVariants.{Arrive, Source, Push, Listen, Command, RelayUp}
use Rattle.radio_events.specs.declared.event.SourceRequest.{SourceRequest}
use Rattle.radio_events.specs.declared.event.ListenRequest.{ListenRequest}
use Rattle.radio_events.specs.declared.command.CommandRequest.{CommandRequest}
use Rattle.radio_events.specs.declared.reply.Reply.TheVariants.{Feeding, Deny}
use Rattle.radio_events.specs.Events.{client_in}
use Rattle.radio_parts_station.specs.declared.clients.ClientState.TheVariants.{Undecided, Answered}
use Rattle.radio_parts_station.specs.declared.standing.Standing.TheVariants.{Feeds}
use Rattle.radio_parts_station.specs.Clients.{Client, client_of}
use Rattle.radio_parts_mount.specs.Sessions.{Session, session_of}
use Rattle.radio_parts.specs.Step.{reply_to, world_after}
use Rattle.radio_parts.specs.Ways.{rows_for, IsUndecided}
use Rattle.radio_parts_station.specs.World.{World, standing_of}
use Rattle.radio_laws.specs.Shown.{IsPath}

-- The state as it was, except that the client that asked has had its answer, if it had asked for nothing before.
pub record IsOnlyAnswered (w later : World) (client : Option ℕ) : Type 0 where
  pub time : later.station.time ≡ w.station.time
  pub settings : later.station.settings ≡ w.station.settings
  pub lists : later.station.lists ≡ w.station.lists
  pub live : later.station.live ≡ w.station.live
  pub fallbacks : later.station.fallbacks ≡ w.station.fallbacks
  pub relays : later.station.relays ≡ w.station.relays
  pub last : later.station.last_id ≡ w.station.last_id
  pub seats : later.seats ≡ w.seats
  pub answered : (id : ℕ) (him : Client) → client ≡ Some id → client_of w.station.clients id ≡ Some him → him.state ≡ Undecided
      → client_of later.station.clients id ≡ Some (record him { state = Answered })
  pub others : (id : ℕ) → (client ≡ Some id → IsUndecided w id → ⊥) → client_of later.station.clients id ≡ client_of w.station.clients id

-- a reply that denies is a denial of the policy in this state, by the first rule whose condition holds, and changes nothing else
-- rule: First rule
abbrev pub DenialsAreThePolicys : World → Event → Type 0
DenialsAreThePolicys w event = (rule : Rule) → reply_to w event ≡ Deny rule
    → Denies (rows_for w event) rule × IsOnlyAnswered w (world_after w event) (client_in event)

-- the event asks the policy. A connection arrives, a source sends a block, or a relay comes up. Or a client that has asked for nothing yet
-- asks to feed a mount, gives a command, or asks to listen. The path at which it asks to listen is none of the web site's
pub data AsksThePolicy (w : World) : Event → Type 0 where
  ToArrive : (peer : Peer) → AsksThePolicy w (Arrive peer)
  ToFeed : (asked : SourceRequest) → IsUndecided w asked.id → AsksThePolicy w (Source asked)
  ToSend : (id : ℕ) (mount block : List ℕ) → standing_of w id ≡ Feeds mount → AsksThePolicy w (Push id block)
  ToListen : (asked : ListenRequest) → IsUndecided w asked.id → ((path : WebPath) → IsPath w asked.mount path → ⊥) → AsksThePolicy w (Listen asked)
  ToCommand : (asked : CommandRequest) → IsUndecided w asked.id → AsksThePolicy w (Command asked)
  ToComeUp : (mount : List ℕ) (shown : Shown) → AsksThePolicy w (RelayUp mount shown)

-- the policy is obeyed if it denies: the reply denies by the first rule whose condition holds
abbrev pub ThePolicyDenies : World → Event → Type 0
ThePolicyDenies w event = AsksThePolicy w event → (rule : Rule) → Denies (rows_for w event) rule → reply_to w event ≡ Deny rule

-- an address on the deny list is denied for it, whatever else holds; an address that an allow list lacks is denied for that
-- rule: Address denied; Address not allowed
pub record AddressesAreDenied (w : World) : Type 0 where
  pub denied : (peer : Peer) → is_denied w.station.lists peer ≡ true → reply_to w (Arrive peer) ≡ Deny AddressDenied
  pub not_allowed : (peer : Peer) → is_denied w.station.lists peer ≡ false → is_allowed w.station.lists peer ≡ false
      → reply_to w (Arrive peer) ≡ Deny AddressNotAllowed

-- a source feeds only the mount that it names. It sent the user and the password of that mount's source, byte for byte, and a carried content type
pub record FeedsAsItsSource (w : World) (event : Event) : Type 0 where
  pub asked : SourceRequest
  pub wants : event ≡ Source asked
  pub pair : Credentials
  pub sent : asked.pair ≡ Some pair
  pub user : pair.user ≡ (options_for w.station.settings asked.mount).source.username
  pub password : pair.password ≡ (options_for w.station.settings asked.mount).source.password
  pub is_carried : is_refused_type asked.shown.content_type ≡ false

-- rule: Source password
abbrev pub OnlySourcesFeed : World → Event → Type 0
OnlySourcesFeed w event = reply_to w event ≡ Feeding → FeedsAsItsSource w event

-- a mount of the settings, a mount that a relay feeds, and a live mount are never denied as unknown
-- rule: No mount
pub record KnownMountsAreKnown (w : World) (asked : ListenRequest) : Type 0 where
  pub in_settings : (mount : MountSetting) → Has mount w.station.settings.mounts → mount.name ≡ asked.mount → reply_to w (Listen asked) ≡ Deny NoMount → ⊥
  pub relayed : (relay : RelaySetting) → Has relay w.station.settings.relays → relay.local_mount ≡ asked.mount → reply_to w (Listen asked) ≡ Deny NoMount → ⊥
  pub live : (session : Session) → session_of w.station.live asked.mount ≡ Some session → reply_to w (Listen asked) ≡ Deny NoMount → ⊥
