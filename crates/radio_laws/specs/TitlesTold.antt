-- The titles that sources and commands set, and those that listeners get.
use Rattle.std.specs.Prelude.{◌≡◌, ℕ, Option, Some, None, List, [], ◌∷◌, ◌++◌, if◌then◌else◌}
use Rattle.std.specs.List.{last_or}
use Rattle.std.specs.Option.{option_map}
use Rattle.radio_settings_values.specs.declared.settings.Settings.{Settings}
use Rattle.radio_access.specs.Lists.{Lists}
use Rattle.radio_events.specs.declared.event.Event.{Event}
use Rattle.radio_events.specs.declared.event.Event.TheVariants.{Title, Draw, Command}
use Rattle.radio_events.specs.declared.command.Asked.{Asked}
use Rattle.radio_events.specs.declared.command.Asked.TheVariants.{Command as Asks}
use Rattle.radio_events.specs.declared.command.Command.TheVariants.{SetTitle}
use Rattle.radio_events.specs.declared.reply.Reply.{Reply}
use Rattle.radio_events.specs.declared.reply.Reply.TheVariants.{Drawn, Noted, Text as SaysText}
use Rattle.radio_events.specs.declared.text.ReplyText.TheVariants.{Done}
use Rattle.radio_seats_rows.specs.declared.seat.Seat.{Seat}
use Rattle.radio_core.specs.Handing.{is_same_number, of_client}
use Rattle.radio_parts_mount.specs.Sessions.{session_of}
use Rattle.radio_core.specs.Run.{run_after}
use Rattle.radio_seats_rows.specs.Seats.{seat_of}
use Rattle.radio_parts.specs.Step.{reply_to, world_after}
use Rattle.radio_parts_station.specs.World.{World, opening}

-- the title in an event
abbrev pub title_of_event : Event → List (List ℕ)
title_of_event (Title id text) = text ∷ []
title_of_event _ = []

-- titles count if the reply is that they were noted
abbrev pub if_noted : Reply → List (List ℕ) → List (List ℕ)
if_noted Noted titles = titles
if_noted _ titles = []

-- and titles of commands if the reply is that the command was done
abbrev pub if_done : Reply → List (List ℕ) → List (List ℕ)
if_done (SaysText Done) titles = titles
if_done _ titles = []

-- the source that feeds the mount, by its number, if the mount is live
abbrev pub source_at : World → List ℕ → Option ℕ
source_at w mount = option_map (λ session. session.number) (session_of w.station.live mount)

-- the title of a command, if this source feeds the mount that it names
abbrev pub commanded_at : World → Asked → ℕ → List (List ℕ)
commanded_at w (Asks (SetTitle mount text)) id = (if is_same_number id (source_at w mount) then text ∷ [] else [])
commanded_at w asked id = []

abbrev pub commanded_in : World → Event → ℕ → List (List ℕ)
commanded_in w (Command asked) id = commanded_at w asked.asked id
commanded_in w event id = []

-- the title that an event sets for the source of this number: by a command that names its mount, or by the source itself
-- rule: Title of a session
abbrev pub set_by : World → Event → Reply → ℕ → List (List ℕ)
set_by w event reply id = if_done reply (commanded_in w event id) ++ of_client event id (if_noted reply (title_of_event event))

abbrev pub set_at : World → Event → ℕ → List (List ℕ)
set_at w event id = set_by w event (reply_to w event) id

-- all titles that are set for the source of this number through the events, in their order
abbrev pub titles_set : World → List Event → ℕ → List (List ℕ)
titles_set w [] id = []
titles_set w (event ∷ events) id = set_at w event id ++ titles_set (world_after w event) events id

-- the last title that was set for the source of this number through the events, if one was
-- rule: Title of a session
abbrev pub last_title : World → List Event → ℕ → Option (List ℕ)
last_title w events id = last_or None (titles_set w events id)

-- after these events a listener draws, and the title is the last one that was set for the source in whose session it sits
pub record IsLastTitle (settings : Settings) (lists : Lists) (events : List Event) (event : Event) (title : Option (List ℕ)) : Type 0 where
  pub id : ℕ
  pub room : ℕ
  pub asked : event ≡ Draw id room
  pub seat : Seat
  pub has_the_seat : seat_of (run_after settings lists events).seats id ≡ Some seat
  pub is_last : title ≡ last_title (opening settings lists) events seat.session

-- over every run, a listener that gets data gets the last title that was set for its source
-- rule: Title of a session
abbrev pub TitlesAreTold : Settings → Lists → List Event → Event → Type 0
TitlesAreTold settings lists events event = (bytes : List ℕ) (title : Option (List ℕ)) → reply_to (run_after settings lists events) event ≡ Drawn bytes title
    → IsLastTitle settings lists events event title
