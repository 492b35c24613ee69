-- What laws say of lines.
use Rattle.std.specs.Prelude.{ℕ, ◌≡◌, ◌<◌, ◌≤◌, ◌^◌, List, ◌∷◌, ◌++◌, map, Option, Some}
use Rattle.std.specs.List.{AllByRecursion, flat_map}
use Rattle.std.specs.Option.{option_map}
use Rattle.httpdate.specs.Calendar.{IsCivilDate, IsTimeOfDay}
use Rattle.percent_encoding.specs.Percent.{percent_decode}
use Rattle.radio_texts.specs.Cuts.{cut, fields_at}
use Rattle.radio_addr.specs.Writing.{IsPeer}
use Rattle.radio_log.specs.declared.facts.Fact.{Fact}
use Rattle.radio_log.specs.declared.facts.Fact.TheVariants.{Started, Ended, ClientEnded, SourceUp, SourceGone, RelayUp, RelayGone, RelayFailed, MountUp, MountGone, Title, Command, Warning, Fault, Lost}
use Rattle.radio_log.specs.declared.moment.Moment.{Moment}
use Rattle.radio_log.specs.declared.notes.Note.{Note}
use Rattle.radio_log.specs.Moments.{moment_text}
use Rattle.radio_log.specs.Lines.{Field, field_word, fact_kind, fields_of, body, note_line}

-- a text of bytes, and a number of 64 bits
abbrev pub IsText : List ℕ → Type 0
IsText text = AllByRecursion (λ b. b < 256) text

abbrev pub IsCount : ℕ → Type 0
IsCount n = n < 2 ^ 64

-- the calendar has the day, and the clock the time
abbrev pub IsMoment : Moment → Type 0
IsMoment m = IsCivilDate m.year m.month m.day × IsTimeOfDay m.hour m.minute m.second

-- a fact as a program can have one: texts of bytes, numbers of 64 bits, addresses of peers
abbrev pub IsFact : Fact → Type 0
IsFact (Started version address) = IsText version × IsText address
IsFact (Ended why) = IsText why
IsFact (ClientEnded c) =
    IsPeer c.peer × IsText c.method × IsText c.path × IsText c.mount × IsCount c.status × IsText c.why
    × IsText c.user × IsCount c.seconds × IsCount c.bytes × IsText c.agent
IsFact (SourceUp s) = IsText s.mount × IsPeer s.peer × IsText s.content_type × IsText s.agent
IsFact (SourceGone s) = IsText s.mount × IsPeer s.peer × IsText s.why × IsCount s.seconds × IsCount s.bytes
IsFact (RelayUp r) = IsText r.mount × IsText r.master × IsText r.content_type
IsFact (RelayGone r) = IsText r.mount × IsText r.master × IsText r.why × IsCount r.seconds × IsCount r.bytes
IsFact (RelayFailed r) = IsText r.mount × IsText r.master × IsText r.why × IsCount r.times
IsFact (MountUp mount) = IsText mount
IsFact (MountGone mount why) = IsText mount × IsText why
IsFact (Title t) = IsText t.mount × IsText t.title
IsFact (Command c) = IsText c.name × IsText c.mount × IsText c.argument × IsText c.user × IsPeer c.peer
IsFact (Warning w) =
    IsText w.why × IsText w.key × IsText w.mount × IsCount w.limit × IsText w.place.table × IsCount w.place.line
    × IsText w.place.did_you_mean × IsText w.place.belongs_to
IsFact (Fault f) =
    IsText f.why × IsText f.file × IsCount f.line × IsCount f.column × IsText f.address × IsText f.reason
    × IsText f.at.table × IsText f.at.mount × IsText f.at.value × IsText f.at.allowed
IsFact (Lost lines) = IsCount lines

abbrev pub IsNote : Note → Type 0
IsNote note = IsMoment note.moment × IsFact note.fact

-- a space, or a letter, a digit or a sign of ASCII
-- rule: Line of the log
abbrev pub IsPrintable : ℕ → Type 0
IsPrintable b = (32 ≤ b) × (b ≤ 126)

-- a word of a line as a field: cut at its first `=`, and what is behind it decoded
abbrev pub read_word : List ℕ → Option Field
read_word text = option_map (λ parts. (parts.0, percent_decode parts.1)) (cut 61 text)

-- how a line is read, whatever follows it: it ends at the first LF, its words are parted by single spaces, and each word behind the
-- second is a field
pub record IsLineReadBack (note : Note) : Type 0 where
  pub ends : (rest : List ℕ) → cut 10 (note_line note ++ rest) ≡ Some (body note, rest)
  pub words : fields_at 32 (body note) ≡ moment_text note.moment ∷ fact_kind note.fact ∷ map field_word (fields_of note.fact)
  pub fields : map read_word (map field_word (fields_of note.fact)) ≡ map (λ (field : Field). Some field) (fields_of note.fact)

-- a log: the lines of the notes, one behind the other
unfoldable pub log : List Note → List ℕ
log notes = flat_map note_line notes
