-- What has happened on a connection, and what the log says of it when it is over.
use Rattle.std.specs.Prelude.{ℕ, Bool, true, false, ◌||◌, ◌==◌, ◌+◌, ◌-◌, ◌/◌, if◌then◌else◌, List, [], ◌∷◌, Option, Some, None}
use Rattle.radio_addr.specs.declared.peer.Peer.{Peer}
use Rattle.radio_log.specs.declared.facts.ClientEnded.{ClientEnded}
use Rattle.radio_log.specs.declared.facts.SourceGone.{SourceGone}
use Rattle.radio_notes.specs.declared.ends.End.{End}
use Rattle.radio_notes.specs.declared.request_so_far.RequestSoFar.{RequestSoFar}
use Rattle.radio_notes.specs.declared.reply_note.ReplyNote.{ReplyNote}
use Rattle.radio_notes.specs.declared.reply_note.ReplyNote.TheVariants.{Seated, Feeding, Text, Shown, Denied}
use Rattle.radio_notes.specs.declared.visit.Part.{Part}
use Rattle.radio_notes.specs.declared.visit.Part.TheVariants.{Neither, Listener, Source}
use Rattle.radio_notes.specs.declared.visit.Visit.{Visit}
use Rattle.radio_notes.specs.declared.visit.Happening.{Happening}
use Rattle.radio_notes.specs.declared.visit.Happening.TheVariants.{Replied, Handed, Fed, Ended}
use Rattle.radio_notes.specs.Counts.{capped}
use Rattle.radio_notes.specs.Ends.{code_of, code_of_end, end_word}
use Rattle.radio_notes.specs.Requests.{request_kept}

-- the first status counts; 0 is none
abbrev pub first_of : ℕ → ℕ → ℕ
first_of before status = if before == 0 then status else before

-- the first end counts
abbrev pub first_end : Option End → End → Option End
first_end None end = Some end
first_end (Some before) end = Some before

-- a connection has come, and nothing has happened on it
abbrev pub new_visit : ℕ → Visit
new_visit ms = record { since_ms = ms; handed = 0; fed = 0; status = 0; part = Neither; is_poll = false; end = None }

-- what a client does once this was replied
abbrev pub part_given : ReplyNote → Part → Part
part_given Seated before = Listener
part_given Feeding before = Source
part_given reply_note before = before

-- the status of an answer (RFC 9110, section 15); 0 for none
abbrev pub status_of_note : ReplyNote → ℕ
status_of_note Seated = 200
status_of_note Feeding = 200
status_of_note Text = 200
status_of_note Shown = 200
status_of_note (Denied rule) = code_of rule
status_of_note reply_note = 0

-- something of the station is shown
-- rule: Polls
abbrev pub reply_shows_station : ReplyNote → Bool
reply_shows_station Shown = true
reply_shows_station reply_note = false

-- a reply gives the client its part, and the first status counts
abbrev pub replied : Visit → ReplyNote → Visit
replied visit reply_note = record visit {
  part = part_given reply_note visit.part;
  status = first_of visit.status (status_of_note reply_note);
  is_poll = reply_shows_station reply_note || visit.is_poll;
}

-- what has happened once this has happened too
-- rule: Line of a client
abbrev pub visit_after : Visit → Happening → Visit
visit_after visit (Replied reply_note) = replied visit reply_note
visit_after visit (Handed count) = record visit { handed = capped (visit.handed + count) }
visit_after visit (Fed count) = record visit { fed = capped (visit.fed + count) }
visit_after visit (Ended end) =
    record visit { status = first_of visit.status (code_of_end end); end = first_end visit.end end }

-- whole seconds from one moment to another, in milliseconds
abbrev pub seconds_between : ℕ → ℕ → ℕ
seconds_between since ms = (ms - since) / 1000

-- the mount of a client's line: a listener's last mount, if that was noted, else the path that the client asked for
-- rule: Last mount
abbrev pub mount_of_visit : Part → List ℕ → List ℕ → List ℕ
mount_of_visit Neither asked last = []
mount_of_visit Listener asked [] = asked
mount_of_visit Listener asked (b ∷ last) = b ∷ last
mount_of_visit Source asked last = asked

-- what the log says of a client that is gone
-- rule: Line of a client
abbrev pub client_ended : Peer → ℕ → Visit → RequestSoFar → List ℕ → ClientEnded
client_ended peer ms visit request last = record {
  peer = peer;
  method = (request_kept request).method;
  path = (request_kept request).path;
  mount = mount_of_visit visit.part (request_kept request).path last;
  status = visit.status;
  why = end_word visit.end;
  user = (request_kept request).user;
  seconds = seconds_between visit.since_ms ms;
  bytes = visit.handed;
  agent = (request_kept request).agent;
}

-- what the log says of a source that is gone
abbrev pub source_gone : Peer → ℕ → Visit → RequestSoFar → SourceGone
source_gone peer ms visit request = record {
  mount = (request_kept request).path;
  peer = peer;
  why = end_word visit.end;
  seconds = seconds_between visit.since_ms ms;
  bytes = visit.fed;
}
