-- What is worked out of an event before its change is made. A reply that names how many were moved, or have finished, is completed then.
use Rattle.radio_events.specs.declared.event.Event.{Event}
use Rattle.radio_events.specs.declared.event.Event.TheVariants.{Command}
use Rattle.radio_events.specs.declared.reply.Reply.{Reply}
use Rattle.radio_events.specs.declared.reply.Reply.TheVariants.{Text as SaysText}
use Rattle.radio_events.specs.declared.text.ReplyText.{ReplyText}
use Rattle.radio_events.specs.declared.text.ReplyText.TheVariants.{Moved, Ended}
use Rattle.radio_parts.specs.declared.outcome.Outcome.{Outcome}
use Rattle.radio_fallback.specs.declared.moves.Carried.{Carried}
use Rattle.radio_parts.specs.Command.{command_outcome}
use Rattle.radio_parts_changes.specs.Counts.{nobody}
use Rattle.radio_parts.specs.Step.{outcome}
use Rattle.radio_parts_station.specs.World.{World}

abbrev pub told_counts : ReplyText → Carried → ReplyText
told_counts (Moved other) counts = Moved counts.moved
told_counts (Ended other) counts = Ended counts.ended
told_counts text counts = text

-- the reply, with these numbers of listeners moved or finished, if it names any
abbrev pub with_counts : Reply → Carried → Reply
with_counts (SaysText text) counts = SaysText (told_counts text counts)
with_counts reply counts = reply

-- the outcome, with no number in the reply yet
abbrev pub uncounted : Outcome → Outcome
uncounted o = record o { reply = with_counts o.reply nobody }

-- what is worked out beforehand
unfoldable pub planned : World → Event → Outcome
planned w (Command asked) = uncounted (command_outcome w asked)
planned w event = outcome w event
