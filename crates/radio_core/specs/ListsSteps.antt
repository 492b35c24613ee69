-- What an event does to the lists of who is let in.
use Rattle.std.specs.Prelude.{ℕ, List}
use Rattle.radio_access.specs.Lists.{Lists, with_user_at, without_user_at}
use Rattle.radio_events.specs.declared.command.Command.TheVariants.{AddUser, DeleteUser}
use Rattle.radio_events.specs.declared.event.Event.{Event}
use Rattle.radio_parts.specs.Allowed.{IsCommanded}
use Rattle.radio_parts.specs.Step.{world_after}
use Rattle.radio_parts_station.specs.World.{World}

-- all that an event can do to them
pub data ListsStep (w : World) (event : Event) (lists : Lists) : Lists → Type 0 where
  -- they stay as they are
  Stay : ListsStep w event lists lists
  -- a command sets a user of a mount
  IsAdded : (mount user password : List ℕ) → IsCommanded w event (AddUser mount user password)
      → ListsStep w event lists (with_user_at lists mount user password)
  -- a command takes a user of a mount away
  IsDeleted : (mount user : List ℕ) → IsCommanded w event (DeleteUser mount user) → ListsStep w event lists (without_user_at lists mount user)

abbrev pub ListsAreStepped : World → Event → Type 0
ListsAreStepped w event = ListsStep w event w.station.lists (world_after w event).station.lists
