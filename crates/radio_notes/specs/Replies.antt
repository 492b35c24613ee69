-- What of a reply is noted.
use Rattle.radio_events.specs.declared.reply.Reply.{Reply}
use Rattle.radio_events.specs.declared.reply.Reply.TheVariants.{Noted, Feeding, Seated, Text, Deny}
use Rattle.radio_events.specs.declared.text.ReplyText.{ReplyText as TextOf}
use Rattle.radio_events.specs.declared.text.ReplyText.TheVariants.{Done, Moved, Ended}
use Rattle.radio_notes.specs.declared.reply_note.ReplyNote.{ReplyNote}
use Rattle.radio_notes.specs.declared.reply_note.ReplyNote.TheVariants.{Nothing, Noted as IsNoted, Feeding as Feeds, Seated as Sits, Text as IsAnswered, Shown, Denied}

-- a command that was done is answered; all other texts show something of the station
abbrev pub note_of_text : TextOf → ReplyNote
note_of_text Done = IsAnswered
note_of_text (Moved count) = IsAnswered
note_of_text (Ended count) = IsAnswered
note_of_text text = Shown

-- What is noted of a reply. Nothing is noted of an arrival, of data, of a client that was finished before, and of a stray event.
abbrev pub note_of_reply : Reply → ReplyNote
note_of_reply Noted = IsNoted
note_of_reply Feeding = Feeds
note_of_reply (Seated interval head) = Sits
note_of_reply (Text text) = note_of_text text
note_of_reply (Deny rule) = Denied rule
note_of_reply reply = Nothing
