-- Lines of the log.
use Rattle.std.specs.Prelude.{ℕ, List, [], ◌∷◌, ◌++◌, codes, decimal}
use Rattle.std.specs.List.{flat_map}
use Rattle.radio_addr.specs.Writing.{written}
use Rattle.radio_log.specs.declared.facts.ClientEnded.{ClientEnded as Client}
use Rattle.radio_log.specs.declared.facts.Fact.{Fact}
use Rattle.radio_log.specs.declared.facts.FaultNote.{FaultNote}
use Rattle.radio_log.specs.declared.facts.FaultyKey.{FaultyKey}
use Rattle.radio_log.specs.declared.facts.KeyPlace.{KeyPlace}
use Rattle.radio_log.specs.declared.facts.Fact.TheVariants.{Started, Ended, ClientEnded, SourceUp, SourceGone, RelayUp, RelayGone, RelayFailed, MountUp, MountGone, Title, Command, Warning, Fault, Lost}
use Rattle.radio_log.specs.declared.notes.Note.{Note}
use Rattle.radio_log.specs.Moments.{moment_text}
use Rattle.radio_log.specs.Shown.{shown_value}

-- a name and a value
abbrev pub Field : Type 0
Field = List ℕ × List ℕ

-- a field as a word: its name, `=`, its value
unfoldable pub field_word : Field → List ℕ
field_word field = field.0 ++ codes "=" ++ shown_value field.1

-- the first word of a fact
abbrev pub fact_kind : Fact → List ℕ
fact_kind (Started version address) = codes "started"
fact_kind (Ended why) = codes "ended"
fact_kind (ClientEnded c) = codes "client"
fact_kind (SourceUp s) = codes "source-up"
fact_kind (SourceGone s) = codes "source-gone"
fact_kind (RelayUp r) = codes "relay-up"
fact_kind (RelayGone r) = codes "relay-gone"
fact_kind (RelayFailed r) = codes "relay-failed"
fact_kind (MountUp mount) = codes "mount-up"
fact_kind (MountGone mount why) = codes "mount-gone"
fact_kind (Title t) = codes "title"
fact_kind (Command c) = codes "command"
fact_kind (Warning w) = codes "warning"
fact_kind (Fault f) = codes "fault"
fact_kind (Lost lines) = codes "lost"

-- what a client asked for, and what came of it
abbrev pub request_fields : Client → List Field
request_fields c =
    (codes "peer", written c.peer) ∷ (codes "method", c.method) ∷ (codes "path", c.path)
    ∷ (codes "mount", c.mount) ∷ []

abbrev pub outcome_fields : Client → List Field
outcome_fields c =
    (codes "status", decimal c.status) ∷ (codes "why", c.why) ∷ (codes "user", c.user)
    ∷ (codes "seconds", decimal c.seconds) ∷ (codes "bytes", decimal c.bytes) ∷ (codes "agent", c.agent) ∷ []

-- where a key of the settings is, and what may have been meant
abbrev pub place_fields : KeyPlace → List Field
place_fields k =
    (codes "table", k.table) ∷ (codes "line", decimal k.line) ∷ (codes "did-you-mean", k.did_you_mean)
    ∷ (codes "belongs-to", k.belongs_to) ∷ []

-- what a fault is, and which key of the settings it is of
abbrev pub fault_fields : FaultNote → List Field
fault_fields f =
    (codes "why", f.why) ∷ (codes "file", f.file) ∷ (codes "line", decimal f.line) ∷ (codes "column", decimal f.column)
    ∷ (codes "address", f.address) ∷ (codes "reason", f.reason) ∷ []

abbrev pub faulty_fields : FaultyKey → List Field
faulty_fields k =
    (codes "table", k.table) ∷ (codes "mount", k.mount) ∷ (codes "value", k.value) ∷ (codes "allowed", k.allowed) ∷ []

-- the fields that follow
abbrev pub fields_of : Fact → List Field
fields_of (Started version address) = (codes "version", version) ∷ (codes "address", address) ∷ []
fields_of (Ended why) = (codes "why", why) ∷ []
fields_of (ClientEnded c) = request_fields c ++ outcome_fields c
fields_of (SourceUp s) =
    (codes "mount", s.mount) ∷ (codes "peer", written s.peer) ∷ (codes "type", s.content_type)
    ∷ (codes "agent", s.agent) ∷ []
fields_of (SourceGone s) =
    (codes "mount", s.mount) ∷ (codes "peer", written s.peer) ∷ (codes "why", s.why)
    ∷ (codes "seconds", decimal s.seconds) ∷ (codes "bytes", decimal s.bytes) ∷ []
fields_of (RelayUp r) =
    (codes "mount", r.mount) ∷ (codes "master", r.master) ∷ (codes "type", r.content_type) ∷ []
fields_of (RelayGone r) =
    (codes "mount", r.mount) ∷ (codes "master", r.master) ∷ (codes "why", r.why)
    ∷ (codes "seconds", decimal r.seconds) ∷ (codes "bytes", decimal r.bytes) ∷ []
fields_of (RelayFailed r) =
    (codes "mount", r.mount) ∷ (codes "master", r.master) ∷ (codes "why", r.why) ∷ (codes "times", decimal r.times) ∷ []
fields_of (MountUp mount) = (codes "mount", mount) ∷ []
fields_of (MountGone mount why) = (codes "mount", mount) ∷ (codes "why", why) ∷ []
fields_of (Title t) = (codes "mount", t.mount) ∷ (codes "title", t.title) ∷ []
fields_of (Command c) =
    (codes "command", c.name) ∷ (codes "mount", c.mount) ∷ (codes "argument", c.argument)
    ∷ (codes "user", c.user) ∷ (codes "peer", written c.peer) ∷ []
fields_of (Warning w) =
    (codes "why", w.why) ∷ (codes "key", w.key) ∷ (codes "mount", w.mount) ∷ (codes "limit", decimal w.limit)
    ∷ place_fields w.place
fields_of (Fault f) = fault_fields f ++ faulty_fields f.at
fields_of (Lost lines) = (codes "lines", decimal lines) ∷ []

-- a word behind a space
unfoldable pub spaced : List ℕ → List ℕ
spaced text = codes " " ++ text

-- the words of fields, each behind a space
abbrev pub fields_text : List Field → List ℕ
fields_text fields = flat_map (λ (field : Field). spaced (field_word field)) fields

-- what is written of a fact: its word and its fields
abbrev pub fact_text : Fact → List ℕ
fact_text fact = spaced (fact_kind fact) ++ fields_text (fields_of fact)

-- a line without its end: the moment, and the fact
abbrev pub body : Note → List ℕ
body note = moment_text note.moment ++ fact_text note.fact

-- a line: its body, and LF
-- rule: Line of the log; Last line
unfoldable pub note_line : Note → List ℕ
note_line note = body note ++ codes "\n"

-- so many bytes of lines wait at most in each place where lines wait
-- rule: Log queue
abbrev pub most_waiting : ℕ
most_waiting = 65536
