-- A reader of lines, and that it gives back what was written.
use Rattle.std.proofs.Common.{◌≡◌, ℕ, ◌+◌, ◌-◌, ◌*◌, ◌/◌, ◌%◌, List, [], ◌∷◌, Some, refl, sym, ap, ◌∙◌, arith, get_or, drop}
use Rattle.std.specs.Prelude.{map, codes, unwrap_or, if◌then◌else◌}
use Rattle.std.specs.List.{AllByRecursion, flat_map}
use Rattle.std.specs.Fmt.{decimal}
use Rattle.std.specs.Str.{bytes_eq}
use Rattle.std.specs.Str.Parse.{digits_value}
use Rattle.std.proofs.lemmas.Fmt.{decimal_is_IsNumeral}
use Rattle.std.proofs.lemmas.Option.{same_Some}
use Rattle.radio_texts.specs.Cuts.{cut, fields_at}
use Rattle.radio_addr.specs.Addresses.{peer_of}
use Rattle.radio_addr.specs.Writing.{written, IsPeer}
use Rattle.radio_addr.specs.declared.address.Address.{Address}
use Rattle.radio_addr.specs.declared.address.Address.TheVariants.{V4}
use Rattle.radio_log.specs.declared.facts.Fact.{Fact}
use Rattle.radio_log.specs.declared.facts.Fact.TheVariants.{Started, Ended, ClientEnded, SourceUp, SourceGone, RelayUp, RelayGone, RelayFailed, MountUp, MountGone, Title, Command, Warning, Fault, Lost}
use Rattle.radio_log.specs.declared.moment.Moment.{Moment}
use Rattle.radio_log.specs.declared.notes.Note.{Note}
use Rattle.radio_log.specs.Moments.{day_text, time_text, moment_text}
use Rattle.radio_log.specs.Lines.{Field, field_word, fact_kind, fields_of, body, note_line}
use Rattle.radio_log.specs.Laws.{IsCount, IsFact, IsNote, read_word, log}
use Rattle.radio_log.proofs.LineLemmas.{fields_named, fields_read, body_read, line_ends}
use Rattle.radio_log.proofs.ByteLemmas.{values_are_bytes}

-- what is written of a peer is read back
abbrev pub ReadsPeers : Type 0
ReadsPeers = (p : Address) → IsPeer p → peer_of (written p) ≡ Some p

pub peer_in : List ℕ → Address
peer_in text = unwrap_or (peer_of text) (V4 0)

pub count_in : List ℕ → ℕ
count_in text = digits_value 10 text

peer_read : ReadsPeers → (p : Address) → IsPeer p → peer_in (written p) ≡ p
unfolding peer_in
peer_read peers p h = rw (peers p h) refl

count_read : (n : ℕ) → IsCount n → count_in (decimal n) ≡ n
unfolding count_in
count_read n h = (decimal_is_IsNumeral n h).1

-- the value of the k-th field
abbrev pub value : ℕ → List Field → List ℕ
value k fields = (get_or fields k ([], [])).1

abbrev pub is_kind : List ℕ → List ℕ → Fact → Fact → Fact
is_kind kind name fact other = if bytes_eq kind name then fact else other

abbrev pub fact_of : List ℕ → List Field → Fact
fact_of kind fs =
    is_kind kind (codes "started") (Started (value 0 fs) (value 1 fs))
    (is_kind kind (codes "ended") (Ended (value 0 fs))
    (is_kind kind (codes "client") (ClientEnded (record {
      peer = peer_in (value 0 fs);
      method = value 1 fs;
      path = value 2 fs;
      mount = value 3 fs;
      status = count_in (value 4 fs);
      why = value 5 fs;
      user = value 6 fs;
      seconds = count_in (value 7 fs);
      bytes = count_in (value 8 fs);
      agent = value 9 fs;
    }))
    (is_kind kind (codes "source-up") (SourceUp (record { mount = value 0 fs; peer = peer_in (value 1 fs); content_type = value 2 fs; agent = value 3 fs }))
    (is_kind kind (codes "source-gone") (SourceGone (record {
      mount = value 0 fs;
      peer = peer_in (value 1 fs);
      why = value 2 fs;
      seconds = count_in (value 3 fs);
      bytes = count_in (value 4 fs);
    }))
    (is_kind kind (codes "relay-up") (RelayUp (record { mount = value 0 fs; master = value 1 fs; content_type = value 2 fs }))
    (is_kind kind (codes "relay-gone") (RelayGone (record {
      mount = value 0 fs;
      master = value 1 fs;
      why = value 2 fs;
      seconds = count_in (value 3 fs);
      bytes = count_in (value 4 fs);
    }))
    (is_kind kind (codes "relay-failed") (RelayFailed (record { mount = value 0 fs; master = value 1 fs; why = value 2 fs; times = count_in (value 3 fs) }))
    (is_kind kind (codes "mount-up") (MountUp (value 0 fs))
    (is_kind kind (codes "mount-gone") (MountGone (value 0 fs) (value 1 fs))
    (is_kind kind (codes "title") (Title (record { mount = value 0 fs; title = value 1 fs }))
    (is_kind kind (codes "command") (Command (record {
      name = value 0 fs;
      mount = value 1 fs;
      argument = value 2 fs;
      user = value 3 fs;
      peer = peer_in (value 4 fs);
    }))
    (is_kind kind (codes "warning") (Warning (record {
      why = value 0 fs;
      key = value 1 fs;
      mount = value 2 fs;
      limit = count_in (value 3 fs);
      place = record { table = value 4 fs; line = count_in (value 5 fs); did_you_mean = value 6 fs; belongs_to = value 7 fs };
    }))
    (is_kind kind (codes "fault") (Fault (record {
      why = value 0 fs;
      file = value 1 fs;
      line = count_in (value 2 fs);
      column = count_in (value 3 fs);
      address = value 4 fs;
      reason = value 5 fs;
      at = record { table = value 6 fs; mount = value 7 fs; value = value 8 fs; allowed = value 9 fs };
    }))
    (Lost (count_in (value 0 fs))))))))))))))))

fact_read : ReadsPeers → (fact : Fact) → IsFact fact → fact_of (fact_kind fact) (fields_of fact) ≡ fact
fact_read peers (Started version address) h = refl
fact_read peers (Ended why) h = refl
fact_read peers (ClientEnded c) h =
    rw (peer_read peers c.peer h.0, count_read c.status h.4, count_read c.seconds h.7, count_read c.bytes h.8) refl
fact_read peers (SourceUp s) h = rw (peer_read peers s.peer h.1) refl
fact_read peers (SourceGone s) h = rw (peer_read peers s.peer h.1, count_read s.seconds h.3, count_read s.bytes h.4) refl
fact_read peers (RelayUp r) h = refl
fact_read peers (RelayGone r) h = rw (count_read r.seconds h.3, count_read r.bytes h.4) refl
fact_read peers (RelayFailed r) h = rw (count_read r.times h.3) refl
fact_read peers (MountUp mount) h = refl
fact_read peers (MountGone mount why) h = refl
fact_read peers (Title t) h = refl
fact_read peers (Command c) h = rw (peer_read peers c.peer h.4) refl
fact_read peers (Warning w) h = rw (count_read w.limit h.3, count_read w.place.line h.5) refl
fact_read peers (Fault f) h = rw (count_read f.line h.2, count_read f.column h.3) refl
fact_read peers (Lost lines) h = rw (count_read lines h) refl

-- the number in two digits
pub pair_of : ℕ → ℕ → ℕ
pair_of tens ones = (tens - 48) * 10 + (ones - 48)

pair_read : (n : ℕ) → pair_of (48 + n / 10) (48 + n % 10) ≡ n
unfolding pair_of
pair_read n = omega arith

year_read : (n : ℕ) → n / 100 * 100 + n % 100 ≡ n
year_read n = omega arith

abbrev pub pair_at : ℕ → List ℕ → ℕ
pair_at k text = pair_of (get_or text k 0) (get_or text (k + 1) 0)

abbrev pub moment_of : List ℕ → Moment
moment_of text = record {
  year = pair_at 0 text * 100 + pair_at 2 text;
  month = pair_at 5 text;
  day = pair_at 8 text;
  hour = pair_at 11 text;
  minute = pair_at 14 text;
  second = pair_at 17 text;
}

moment_read : (m : Moment) → moment_of (moment_text m) ≡ m
unfolding day_text time_text moment_text
moment_read m =
    rw (pair_read (m.year / 100), pair_read (m.year % 100), pair_read m.month, pair_read m.day, pair_read m.hour, pair_read m.minute, pair_read m.second, year_read m.year) refl

-- a note from the body of its line
pub field_in : List ℕ → Field
field_in text = unwrap_or (read_word text) ([], [])

fields_in : (words : List (List ℕ)) (fields : List Field) → map read_word words ≡ map (λ (field : Field). Some field) fields → map field_in words ≡ fields
unfolding field_in
fields_in [] [] e = refl
fields_in [] (field ∷ fields) e = cc
fields_in (text ∷ words) [] e = cc
fields_in (text ∷ words) (field ∷ fields) e =
    let first : read_word text ≡ Some field = cc in
    let others : map read_word words ≡ map (λ (f : Field). Some f) fields = cc in
    rw first (ap (λ (fs : List Field). field ∷ fs) (fields_in words fields others))

abbrev pub note_in : List (List ℕ) → Note
note_in words = record { moment = moment_of (get_or words 0 []); fact = fact_of (get_or words 1 []) (map field_in (drop 2 words)) }

note_read : ReadsPeers → (note : Note) → IsNote note → note_in (fields_at 32 (body note)) ≡ note
note_read peers note h =
    let fields = fields_in (map field_word (fields_of note.fact)) (fields_of note.fact)
    (fields_read (fields_of note.fact) (fields_named note.fact) (values_are_bytes note.fact h.1)) in
    rw (body_read note h.0, moment_read note.moment, fields, fact_read peers note.fact h.1) refl

same_note : ReadsPeers → (note other : Note) → IsNote note → IsNote other → body note ≡ body other → note ≡ other
same_note peers note other h k e =
    sym (note_read peers note h) ∙ ap (λ (text : List ℕ). note_in (fields_at 32 text)) e ∙ note_read peers other k

pub same_logs : ReadsPeers → (notes others : List Note) → AllByRecursion IsNote notes → AllByRecursion IsNote others → log notes ≡ log others → notes ≡ others
unfolding log
same_logs peers [] [] h k e = refl
same_logs peers [] (other ∷ others) h k e =
    let cuts = ap (cut 10) e ∙ line_ends other (flat_map note_line others) k.0.0 in
    cc
same_logs peers (note ∷ notes) [] h k e =
    let cuts = sym (line_ends note (flat_map note_line notes) h.0.0) ∙ ap (cut 10) e in
    cc
same_logs peers (note ∷ notes) (other ∷ others) h k e =
    let cuts = sym (line_ends note (flat_map note_line notes) h.0.0) ∙ ap (cut 10) e ∙ line_ends other (flat_map note_line others) k.0.0 in
    let parts = same_Some (body note, flat_map note_line notes) (body other, flat_map note_line others) cuts in
    let first = same_note peers note other h.0 k.0 (ap (λ (p : List ℕ × List ℕ). p.0) parts) in
    let behind = same_logs peers notes others h.1 k.1 (ap (λ (p : List ℕ × List ℕ). p.1) parts) in
    rw first (ap (λ (ns : List Note). other ∷ ns) behind)
