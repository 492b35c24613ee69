-- What is to be logged of an event, and what of it is logged once the server has replied.
use Rattle.std.specs.Prelude.{◌≡◌, ℕ, List, [], ◌∷◌, length, min}
use Rattle.radio_addr.specs.declared.peer.Peer.{Peer}
use Rattle.radio_events.specs.declared.event.Event.{Event}
use Rattle.radio_events.specs.declared.event.Event.TheVariants.{Push}
use Rattle.radio_log.specs.declared.facts.Fact.{Fact}
use Rattle.radio_log.specs.declared.moment.Moment.{Moment}
use Rattle.radio_log.specs.Moments.{IsSecond}
use Rattle.radio_notes.specs.declared.notice.Notice.{Notice}
use Rattle.radio_notes.specs.declared.notice.Notice.TheVariants.{Nothing, Block, Lines, Lost}
use Rattle.radio_notes.specs.declared.reply_note.ReplyNote.{ReplyNote}
use Rattle.radio_notes.specs.declared.reply_note.ReplyNote.TheVariants.{Noted, Feeding, Text, Shown}
use Rattle.radio_notes.specs.Facts.{facts_of}
use Rattle.radio_notes.specs.Lines.{IsAdded, lines_at, losing}
use Rattle.radio_notes.specs.Waiting.{Waiting}

-- the lines of these facts, or, if memory was refused for them, how many they are
abbrev pub IsMadeOf : Moment → List Fact → Notice → Type 0
IsMadeOf moment facts (Lines lines count) = (lines.items ≡ lines_at moment facts) × (count ≡ length facts)
IsMadeOf moment facts (Lost count) = count ≡ length facts
IsMadeOf moment facts Nothing = facts ≡ []
IsMadeOf moment facts (Block count) = ⊥

-- the last second that a line can have, that of the year 9999
abbrev pub last_second : ℕ
last_second = 253402300799

-- the same at the moment so many seconds after the beginning of 1970
abbrev pub IsMadeAt : ℕ → List Fact → Notice → Type 0
IsMadeAt seconds facts notice =
    (moment : Moment) × IsSecond (min seconds last_second) moment × IsMadeOf moment facts notice

-- nothing is to be logged if there are no facts
abbrev pub IsNoticeOfFacts : ℕ → List Fact → Notice → Type 0
IsNoticeOfFacts seconds [] notice = notice ≡ Nothing
IsNoticeOfFacts seconds (fact ∷ facts) notice = IsMadeAt seconds (fact ∷ facts) notice

-- of a block its length is to be logged, and of every other event its facts
abbrev pub IsNoticeAt : ℕ → Peer → List ℕ → Event → Notice → Type 0
IsNoticeAt seconds peer agent (Push id block) notice = notice ≡ Block (length block)
IsNoticeAt seconds peer agent event notice = IsNoticeOfFacts seconds (facts_of peer agent event) notice

-- what is logged if it is done: lines if an answer says so, a block if it was taken
abbrev pub if_answered : Notice → Notice
if_answered (Block count) = Nothing
if_answered notice = notice

abbrev pub if_taken : Notice → Notice
if_taken (Block count) = Block count
if_taken notice = Nothing

-- what of a notice is logged, by what is noted of the reply: nothing of what was denied
-- rule: Lines of changes
abbrev pub logged_notice : ReplyNote → Notice → Notice
logged_notice Noted notice = if_taken notice
logged_notice Feeding notice = if_answered notice
logged_notice Text notice = if_answered notice
logged_notice Shown notice = if_answered notice
logged_notice reply_note notice = Nothing

-- how many bytes of a stream have come by what is logged
abbrev pub stream_bytes : Notice → ℕ
stream_bytes (Block count) = count
stream_bytes notice = 0

-- lines that are logged wait behind the others, or are lost; those for which memory was refused are lost; all else leaves the log
-- alone
abbrev pub IsNoticeAdded : Moment → Notice → Waiting → Waiting → Type 0
IsNoticeAdded moment (Lines lines count) old new = IsAdded moment lines.items count old new
IsNoticeAdded moment (Lost count) old new = new ≡ losing count old
IsNoticeAdded moment Nothing old new = new ≡ old
IsNoticeAdded moment (Block count) old new = new ≡ old
