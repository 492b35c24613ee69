-- How many listeners a change carries along.
use Rattle.std.specs.Prelude.{ℕ, if◌then◌else◌, List}
use Rattle.radio_settings_values.specs.Options.{options_for}
use Rattle.radio_fallback.specs.declared.moves.Carried.{Carried}
use Rattle.radio_fallback.specs.declared.moves.Move.{Move}
use Rattle.radio_fallback.specs.declared.moves.Move.TheVariants.{Ended as HasEnded, Up, To}
use Rattle.radio_fallback.specs.Carry.{carried}
use Rattle.radio_events.specs.declared.command.Command.{Command}
use Rattle.radio_events.specs.declared.command.Command.TheVariants.{MoveClients, AddUser, DeleteUser}
use Rattle.radio_parts_changes.specs.declared.change.Change.{Change}
use Rattle.radio_parts_changes.specs.declared.change.Change.TheVariants.{Begin, Raise, End, EndAndLeave, Obey}
use Rattle.radio_parts_changes.specs.Changes.{session_begun, session_raised, session_over, user_added, user_deleted}
use Rattle.radio_parts_station.specs.Outsiders.{is_shut_out}
use Rattle.radio_seats_rows.specs.Rests.{how_many}
use Rattle.radio_parts_station.specs.Facts.{sight_of}
use Rattle.radio_parts_station.specs.World.{World}

abbrev pub nobody : Carried
nobody = record { moved = 0; ended = 0 }

-- how many the move shifts and finishes, where this is the state before the first turn
abbrev pub counts_along : World → Move → Carried
counts_along w move = (carried (sight_of w.station) move w.seats).counts

-- the mount's session ends: how many of its listeners go on elsewhere, and how many finish
abbrev pub counts_ended : World → List ℕ → Carried
counts_ended w mount = counts_along (session_over w mount) (HasEnded mount)

-- a source, or a relay, has come up on the mount: how many come home
abbrev pub counts_home : World → List ℕ → Carried
counts_home w mount = (if (options_for w.station.settings mount).listeners.fallback_override then counts_along w (Up mount) else nobody)

-- how many sit at the mount whom its users do not let in
abbrev pub counts_out : World → List ℕ → Carried
counts_out w mount = record { moved = 0; ended = how_many (is_shut_out w.station.lists mount) w.seats }

-- how many a command moves, or finishes since the users of their mount have changed; what else it brings is not counted, and no reply
-- names it
abbrev pub counts_by : World → Command → Carried
counts_by w (MoveClients mount destination) = counts_along w (To mount destination)
counts_by w (AddUser mount user password) = counts_out (user_added w mount user password) mount
counts_by w (DeleteUser mount user) = counts_out (user_deleted w mount user) mount
counts_by w command = nobody

-- how many the move shifts and finishes that the change is, or brings. The moves of a clock, of which there may be several, are not counted, and no
-- reply names them
abbrev pub counted : World → Change → Carried
counted w (Begin id mount shown) = counts_home (session_begun w id mount shown) mount
counted w (Raise id mount shown) = counts_home (session_raised w id mount shown) mount
counted w (End id mount) = counts_ended w mount
counted w (EndAndLeave id mount) = counts_ended w mount
counted w (Obey id command) = counts_by w command
counted w change = nobody
