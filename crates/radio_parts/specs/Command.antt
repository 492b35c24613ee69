use Rattle.std.specs.Prelude.{ℕ}
use Rattle.radio_policy.specs.Verdicts.{verdict_in}
use Rattle.radio_fallback.specs.declared.moves.Carried.{Carried}
use Rattle.radio_events.specs.declared.command.Asked.{Asked}
use Rattle.radio_events.specs.declared.command.Asked.TheVariants.{Listing as AsksFor, Command as Asks}
use Rattle.radio_events.specs.declared.command.Command.{Command as TheCommand}
use Rattle.radio_events.specs.declared.command.Command.TheVariants.{MoveClients, AddUser, DeleteUser}
use Rattle.radio_events.specs.declared.command.CommandRequest.{CommandRequest}
use Rattle.radio_events.specs.declared.command.Listing.{Listing}
use Rattle.radio_events.specs.declared.reply.Reply.TheVariants.{Text as SaysText, Stray}
use Rattle.radio_events.specs.declared.text.ReplyText.{ReplyText}
use Rattle.radio_events.specs.declared.text.ReplyText.TheVariants.{Done, Moved, Ended}
use Rattle.radio_parts_changes.specs.declared.change.Change.TheVariants.{Nothing, Answer, Obey}
use Rattle.radio_parts.specs.declared.outcome.Outcome.{Outcome}
use Rattle.radio_parts_facts.specs.CommandFacts.{rows_to_command}
use Rattle.radio_parts_changes.specs.Counts.{counts_by}
use Rattle.radio_parts_facts.specs.Listings.{shown}
use Rattle.radio_parts_station.specs.World.{World, standing_of}
use Rattle.radio_parts.specs.Outcomes.{says, on_verdict, if_undecided}

-- the reply to a command that was done: how many listeners it moved, how many it finished by a change of their mount's users, or that it was done
-- rule: Move clients
abbrev pub said_of : TheCommand → Carried → ReplyText
said_of (MoveClients mount destination) counts = Moved counts.moved
said_of (AddUser mount user password) counts = Ended counts.ended
said_of (DeleteUser mount user) counts = Ended counts.ended
said_of command counts = Done

-- the command is done, and the client that gave it is answered
abbrev pub obeys : World → ℕ → TheCommand → Outcome
obeys w id command = says (SaysText (said_of command (counts_by w command))) (Obey id command)

-- the client is shown it, and has had its answer
abbrev pub shows : World → ℕ → Listing → Outcome
shows w id listing = says (SaysText (shown w listing)) (Answer id)

-- what was asked is done; where it is no command, which the policy denies, nothing happens
abbrev pub does_asked : World → ℕ → Asked → Outcome
does_asked w id (AsksFor listing) = shows w id listing
does_asked w id (Asks command) = obeys w id command
does_asked w id asked = says Stray Nothing

-- a client gives a command
-- rule: Move clients
abbrev pub command_outcome : World → CommandRequest → Outcome
command_outcome w asked = if_undecided (standing_of w asked.id) (λ _.
    on_verdict (verdict_in (rows_to_command w asked)) (Answer asked.id) (does_asked w asked.id asked.asked))
