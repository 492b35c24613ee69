-- What all mounts have in common, and what an event with its reply makes of it.
use Rattle.std.specs.Prelude.{ℕ, nat_lt, if◌then◌else◌, List, [], ◌∷◌}
use Rattle.radio_access.specs.Lists.{Lists, with_user_at, without_user_at}
use Rattle.radio_events.specs.declared.command.Asked.{Asked}
use Rattle.radio_events.specs.declared.command.Asked.TheVariants.{Command as Asks}
use Rattle.radio_events.specs.declared.command.Command.{Command as TheCommand}
use Rattle.radio_events.specs.declared.command.Command.TheVariants.{SetFallback, AddUser, DeleteUser}
use Rattle.radio_events.specs.declared.entry.Entry.{Entry}
use Rattle.radio_events.specs.declared.event.Event.{Event}
use Rattle.radio_events.specs.declared.event.Event.TheVariants.{Arrive, Command, RelayUp, Clock}
use Rattle.radio_events.specs.declared.reply.Reply.{Reply}
use Rattle.radio_events.specs.declared.reply.Reply.TheVariants.{Arrived, Noted, Text as SaysText}
use Rattle.radio_parts_station.specs.Fallbacks.{Fallback, with_fallback}
use Rattle.radio_parts_station.specs.World.{World}
use Rattle.radio_settings_values.specs.declared.settings.Settings.{Settings}

-- the moment, the settings and their lists with the users as they are now, the fallbacks that were set, and the number that was given last
pub record Common : Type 0 where
  pub time : ℕ
  pub settings : Settings
  pub lists : Lists
  pub fallbacks : List Fallback
  pub last_id : ℕ

abbrev pub common_of : World → Common
common_of w = record {
  time = w.station.time;
  settings = w.station.settings;
  lists = w.station.lists;
  fallbacks = w.station.fallbacks;
  last_id = w.station.last_id;
}

-- a number was given, if the reply names one
abbrev pub common_numbered : Common → Reply → Common
common_numbered common (Arrived id) = record common { last_id = id }
common_numbered common reply = common

-- a command was done
abbrev pub common_done : Common → TheCommand → Common
common_done common (SetFallback mount fallback) = record common { fallbacks = with_fallback common.fallbacks mount fallback }
common_done common (AddUser mount user password) = record common { lists = with_user_at common.lists mount user password }
common_done common (DeleteUser mount user) = record common { lists = without_user_at common.lists mount user }
common_done common command = common

abbrev pub common_asked : Common → Asked → Common
common_asked common (Asks command) = common_done common command
common_asked common asked = common

-- what was asked was done, if it is a command and the reply is a text
abbrev pub common_told : Common → Asked → Reply → Common
common_told common asked (SaysText text) = common_asked common asked
common_told common asked reply = common

-- it is this moment; one that has passed changes nothing
abbrev pub common_at : Common → ℕ → Reply → Common
common_at common ms Noted = record common { time = (if nat_lt ms common.time then common.time else ms) }
common_at common ms reply = common

-- the event was answered so
-- rule: Legal history
abbrev pub common_after : Common → Event → Reply → Common
common_after common (Arrive peer) reply = common_numbered common reply
common_after common (RelayUp mount shown) reply = common_numbered common reply
common_after common (Command asked) reply = common_told common asked.asked reply
common_after common (Clock ms) reply = common_at common ms reply
common_after common event reply = common

-- and so were these, one after the other
abbrev pub common_by : Common → List Entry → Common
common_by common [] = common
common_by common (entry ∷ entries) = common_by (common_after common entry.event entry.reply) entries
