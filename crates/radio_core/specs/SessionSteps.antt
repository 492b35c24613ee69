-- What an event does to the session of one mount.
use Rattle.std.specs.Prelude.{◌≡◌, ◌⊎◌, ℕ, ◌+◌, ◌*◌, ◌-◌, ◌≤◌, Option, Some, None, List, [], ◌∷◌, ◌++◌, length}
use Rattle.radio_values.specs.declared.about.About.{About}
use Rattle.radio_values.specs.declared.field.Shown.{Shown}
use Rattle.radio_settings_values.specs.declared.settings.AboutOptions.{AboutOptions}
use Rattle.radio_settings_values.specs.Options.{options_for}
use Rattle.radio_events.specs.declared.event.Event.{Event}
use Rattle.radio_events.specs.declared.event.Event.TheVariants.{Source, Push, SourceEnd, Title, Leave, RelayUp, RelayDown, Clock}
use Rattle.radio_events.specs.declared.event.SourceRequest.{SourceRequest}
use Rattle.radio_events.specs.declared.command.Command.TheVariants.{KillSource, SetTitle}
use Rattle.radio_parts.specs.Allowed.{IsCommanded}
use Rattle.radio_parts_mount.specs.Sessions.{Session, session_of}
use Rattle.radio_parts.specs.Step.{world_after}
use Rattle.radio_parts_station.specs.World.{World}

-- one text of what a stream shows: that of the settings, where they give one, else the source's
pub data IsShownAs (given : Option (List ℕ)) (own : List ℕ) : List ℕ → Type 0 where
  OfTheSettings : (text : List ℕ) → given ≡ Some text → IsShownAs given own text
  OfTheSource : given ≡ None → IsShownAs given own own

-- so of each text that a stream says of itself beyond its name and genre; the parameters of the audio are the source's
pub record IsSaidAs (given : AboutOptions) (own : About) (about : About) : Type 0 where
  pub description : IsShownAs given.description own.description about.description
  pub url : IsShownAs given.url own.url about.url
  pub bitrate : IsShownAs given.bitrate own.bitrate about.bitrate
  pub audio_info : about.audio_info ≡ own.audio_info

-- a session that has only begun. The source or relay of this number starts to feed the mount now, and has delivered nothing.
-- the session shows its content type. It shows the name, the genre and the other fields of the mount's settings, or else its own
pub record HasBegun (w : World) (mount : List ℕ) (number : ℕ) (shown : Shown) (session : Session) : Type 0 where
  pub its_mount : session.mount ≡ mount
  pub its_source : session.number ≡ number
  pub has_no_data : session.stream.bytes ≡ []
  pub has_no_blocks : session.stream.starts ≡ []
  pub has_no_title : session.title ≡ None
  pub from_now : session.last_block ≡ w.station.time
  pub shows_type : session.shown.content_type ≡ shown.content_type
  pub shows_name : IsShownAs (options_for w.station.settings mount).stream.stream_name shown.name session.shown.name
  pub shows_genre : IsShownAs (options_for w.station.settings mount).stream.genre shown.genre session.shown.genre
  pub shows_about : IsSaidAs (options_for w.station.settings mount).stream.about shown.about session.shown.about

-- all that an event can do to the session of a mount
pub data SessionStep (w : World) (event : Event) (mount : List ℕ) : Option Session → Option Session → Type 0 where
  -- it stays as it is, or there is none still
  Stays : (session : Option Session) → SessionStep w event mount session session
  -- it begins, for the source that asked for the mount
  Begins : (asked : SourceRequest) (session : Session) → event ≡ Source asked → asked.mount ≡ mount → HasBegun w mount asked.id asked.shown session
      → SessionStep w event mount None (Some session)
  -- or for a relay, which has the next number
  BeginsForRelay : (shown : Shown) (session : Session) → event ≡ RelayUp mount shown → HasBegun w mount (w.station.last_id + 1) shown session
      → SessionStep w event mount None (Some session)
  -- its source delivers a block, which starts where the data ended before; it is the last one now
  Grows : (session : Session) (block : List ℕ) → event ≡ Push session.number block → SessionStep w event mount (Some session) (Some (record session {
    stream = record { bytes = session.stream.bytes ++ block; starts = session.stream.starts ++ length session.stream.bytes ∷ [] };
    last_block = w.station.time;
  }))
  -- its source sets its title
  IsTitled : (session : Session) (text : List ℕ) → event ≡ Title session.number text
      → SessionStep w event mount (Some session) (Some (record session { title = Some text }))
  -- a command sets it
  IsRetitled : (session : Session) (text : List ℕ) → IsCommanded w event (SetTitle mount text)
      → SessionStep w event mount (Some session) (Some (record session { title = Some text }))
  -- it ends: its source's data have ended, its source has left, its relay has gone down, or `source-timeout` has passed since its last block
  Ends : (session : Session) → (event ≡ SourceEnd session.number) ⊎ (event ≡ Leave session.number) ⊎ (event ≡ RelayDown session.number)
      ⊎ ((ms : ℕ) × (event ≡ Clock ms) × (1000 * w.station.settings.limits.source_timeout ≤ ms - session.last_block)) → SessionStep w event mount (Some session) None
  -- a command ends it
  IsKilled : (session : Session) → IsCommanded w event (KillSource mount) → SessionStep w event mount (Some session) None

-- rule: Session; Relay feeds
abbrev pub SessionsStep : World → Event → Type 0
SessionsStep w event = (mount : List ℕ) → SessionStep w event mount (session_of w.station.live mount) (session_of (world_after w event).station.live mount)

-- no event changes the settings
-- rule: Change of users
abbrev pub KeepsSettings : World → Event → Type 0
KeepsSettings w event = (world_after w event).station.settings ≡ w.station.settings
