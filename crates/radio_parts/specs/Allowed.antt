-- Whom the policy allows a command, or to be shown something of the station.
use Rattle.std.specs.Prelude.{◌≡◌, ℕ, List}
use Rattle.radio_policy.specs.declared.judgement.Verdict.TheVariants.{Allow}
use Rattle.radio_policy.specs.Verdicts.{verdict_in}
use Rattle.radio_addr.specs.declared.peer.Peer.{Peer}
use Rattle.radio_events.specs.declared.command.Asked.TheVariants.{Listing as AsksFor, Command as Asks}
use Rattle.radio_events.specs.declared.command.Command.{Command as TheCommand}
use Rattle.radio_events.specs.declared.command.Command.TheVariants.{AddUser, DeleteUser}
use Rattle.radio_events.specs.declared.command.CommandRequest.{CommandRequest}
use Rattle.radio_events.specs.declared.command.Listing.{Listing}
use Rattle.radio_events.specs.declared.event.Event.{Event}
use Rattle.radio_events.specs.declared.event.Event.TheVariants.{Command}
use Rattle.radio_parts_facts.specs.CommandFacts.{rows_to_command}
use Rattle.radio_parts_station.specs.declared.standing.Standing.TheVariants.{Undecided}
use Rattle.radio_parts_station.specs.World.{World, standing_of}

-- by this event one who has asked for nothing yet gives this command, and the policy allows it
-- rule: Commands are done
pub record IsCommanded (w : World) (event : Event) (command : TheCommand) : Type 0 where
  pub asked : CommandRequest
  pub is_event : event ≡ Command asked
  pub is_asked : asked.asked ≡ Asks command
  pub peer : Peer
  pub undecided : standing_of w asked.id ≡ Undecided peer
  pub allowed : verdict_in (rows_to_command w asked) ≡ Allow

-- by this event one who has asked for nothing yet asks for this listing, and the policy allows it
-- rule: Who may see
pub record IsListed (w : World) (event : Event) (listing : Listing) : Type 0 where
  pub asked : CommandRequest
  pub is_event : event ≡ Command asked
  pub is_asked : asked.asked ≡ AsksFor listing
  pub peer : Peer
  pub undecided : standing_of w asked.id ≡ Undecided peer
  pub allowed : verdict_in (rows_to_command w asked) ≡ Allow

-- by this event a user of the mount is set, or taken away, as the policy allows
pub data ChangesUsers (w : World) (event : Event) (mount : List ℕ) : Type 0 where
  Adds : (user password : List ℕ) → IsCommanded w event (AddUser mount user password) → ChangesUsers w event mount
  Deletes : (user : List ℕ) → IsCommanded w event (DeleteUser mount user) → ChangesUsers w event mount
