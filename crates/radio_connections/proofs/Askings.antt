-- What was asked of the server for a connection, and when.
use Rattle.std.proofs.Common.{◌≡◌, ◌⊎◌, inl, inr, ℕ, ◌≤◌, ◌==◌, nat_le, arith, Bool, true, false, if◌then◌else◌, List, [], ◌∷◌, ◌++◌, length, refl, sym, ap, ◌∙◌, append_assoc}
use Rattle.std.proofs.lemmas.List.{map-append}
use Rattle.std.proofs.lemmas.Bool.Decides.{nat_tests}
use Rattle.radio_events.specs.declared.event.Event.{Event}
use Rattle.radio_events.specs.declared.reply.Reply.{Reply}
use Rattle.radio_events.specs.declared.entry.Entry.{Entry}
use Rattle.radio_events.specs.Events.{entry}
use Rattle.radio_connections.specs.declared.conn.Fate.TheVariants.{Open}
use Rattle.radio_connections.specs.Connections.{Connection}
use Rattle.radio_connections.specs.Duties.{AreFirstOf, events_of, NotesAsking}
use Rattle.radio_connections.specs.Answering.{IsUnwritten}

pub unwritten_none : (c : Connection) → IsUnwritten c c
unwritten_none c = record { taken = refl; moved = refl; has_taken = refl; finished = refl }

pub unwritten_then : {a b c : Connection} → IsUnwritten a b → IsUnwritten b c → IsUnwritten a c
unwritten_then {a} {b} {c} f g = record {
  taken = g.taken ∙ f.taken;
  moved = g.moved ∙ f.moved;
  has_taken = g.has_taken ∙ f.has_taken;
  finished = g.finished ∙ f.finished;
}

-- at this moment something is asked for it
abbrev pub asked_at : ℕ → Connection → Connection
asked_at ms c = record c { status = record c.status { asked_ms = ms } }

pub long_by : {a b : ℕ} → a ≤ b → nat_le a b ≡ true
long_by {a} {b} long = grind (arith, nat_tests, long)

some_events : (event : Event) (events : List Event) → (length (event ∷ events) == 0) ≡ true → ⊥
some_events event events e = grind (arith, nat_tests, e)

-- no entry is made of no event, and some of some
no_entries : (entries : List Entry) (events : List Event) → events ≡ events_of entries → (length events == 0) ≡ true → entries ≡ []
no_entries [] events all none = refl
no_entries (x ∷ xs) events all none =
    absurd (some_events x.event (events_of xs) (ap (λ (es : List Event). length es == 0) (sym all) ∙ none))

no_events : (events : List Event) (entries : List Entry) → events ≡ events_of entries → entries ≡ [] → (length events == 0) ≡ true
no_events events entries all none = ap (λ (es : List Event). length es == 0) (all ∙ ap (λ (xs : List Entry). events_of xs) none)

-- a choice that is made by a test

chosen : (a b : ℕ) (test : Bool) → test ≡ true → (if test then a else b) ≡ a
chosen a b true e = refl
chosen a b false e = absurd (cc)

other : (a b : ℕ) (test : Bool) → (test ≡ true → ⊥) → (if test then a else b) ≡ b
other a b true e = absurd (e refl)
other a b false e = refl

-- when events were asked is noted, if there were some
pub notes_asking : (ms : ℕ) (c c' : Connection) (events : List Event) (entries : List Entry)
    → (c'.status.fate ≡ Open → events ≡ events_of entries)
    → c'.status.asked_ms ≡ (if length events == 0 then c.status.asked_ms else ms) → NotesAsking ms c entries c'
notes_asking ms c c' events entries all asked = record {
  some = λ goes some. asked ∙ other c.status.asked_ms ms (length events == 0) (λ none. some (no_entries entries events (all goes) none));
  none = λ goes none. asked ∙ chosen c.status.asked_ms ms (length events == 0) (no_events events entries (all goes) none);
}

-- these are the first of events of which the first ones were made before
pub first_then : (before made : List Entry) (events rest : List Event) → events ≡ events_of before ++ rest → AreFirstOf made rest
    → AreFirstOf (before ++ made) events
first_then before made events rest all first = (
  first.0,
  all ∙ ap (λ (es : List Event). events_of before ++ es) first.1
      ∙ sym (append_assoc (events_of before) (events_of made) first.0)
      ∙ ap (λ (es : List Event). es ++ first.0) (sym (map-append (λ (e : Entry). e.event) before made)),
)

-- one entry or none is of the first of the events
pub first_of_one : (event : Event) (later : List Event) (made : List Entry) → (made ≡ []) ⊎ ((reply : Reply) × (made ≡ entry event reply ∷ []))
    → AreFirstOf made (event ∷ later)
first_of_one event later made (inl none) =
    (event ∷ later, ap (λ (xs : List Entry). events_of xs ++ (event ∷ later)) (sym none))
first_of_one event later made (inr one) = (later, ap (λ (xs : List Entry). events_of xs ++ later) (sym one.1))

-- one entry more was made of them
pub made_on : (before made : List Entry) (event : Event) (later : List Event) → (reply : Reply) × (made ≡ entry event reply ∷ [])
    → events_of before ++ (event ∷ later) ≡ events_of (before ++ made) ++ later
made_on before made event later one =
    ap (λ (xs : List Entry). events_of before ++ (events_of xs ++ later)) (sym one.1) ∙ sym (append_assoc (events_of before) (events_of made) later)
    ∙ ap (λ (es : List Event). es ++ later) (sym (map-append (λ (e : Entry). e.event) before made))

pub none_or : (xs : List Entry) → (xs ≡ []) ⊎ (xs ≡ [] → ⊥)
none_or [] = inl refl
none_or (x ∷ xs) = inr (λ e. cc)

pub none_of_first : (xs ys : List Entry) → xs ++ ys ≡ [] → xs ≡ []
none_of_first [] ys e = refl
none_of_first (x ∷ xs) ys e = absurd (cc)

pub none_of_second : (xs ys : List Entry) → xs ++ ys ≡ [] → ys ≡ []
none_of_second [] ys e = e
none_of_second (x ∷ xs) ys e = absurd (cc)

-- what was asked at first, and behind that
pub asking_then : {ms : ℕ} {a b c : Connection} {xs ys : List Entry} → (c.status.fate ≡ Open → b.status.fate ≡ Open) → NotesAsking ms a xs b → NotesAsking ms b ys c
    → NotesAsking ms a (xs ++ ys) c
asking_then {ms} {a} {b} {c} {xs} {ys} goes first last = record {
  some = λ stays_on some. by_some stays_on some (none_or ys);
  none = λ stays_on none. last.none stays_on (none_of_second xs ys none) ∙ first.none (goes stays_on) (none_of_first xs ys none);
} where
  by_some : c.status.fate ≡ Open → (xs ++ ys ≡ [] → ⊥) → (ys ≡ []) ⊎ (ys ≡ [] → ⊥) → c.status.asked_ms ≡ ms
  by_some stays_on some (inl none) =
      last.none stays_on none ∙ first.some (goes stays_on) (λ e. some (ap (λ (zs : List Entry). zs ++ ys) e ∙ none))
  by_some stays_on some (inr more) = last.some stays_on more

-- the moment was noted before
pub asking_from : {ms : ℕ} {a b c : Connection} {xs : List Entry} → b.status.asked_ms ≡ a.status.asked_ms → NotesAsking ms b xs c → NotesAsking ms a xs c
asking_from {ms} {a} {b} {c} {xs} same asking =
    record { some = asking.some; none = λ goes none. asking.none goes none ∙ same }
