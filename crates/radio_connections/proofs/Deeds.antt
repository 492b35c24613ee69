-- Entries made for a connection, one after another.
use Rattle.std.proofs.Common.{◌≡◌, ◌<◌, ◌≤◌, ◌==◌, nat_le, length, arith, ℕ, zero, suc, true, false, List, take, drop, ap}
use Rattle.std.proofs.Common.{[], ◌∷◌, ◌++◌, refl, sym, subst, ◌∙◌, append_assoc, append-nil, lt_irrefl, inl, inr, if◌then◌else◌}
use Rattle.std.proofs.lemmas.Bool.{false≢true}
use Rattle.std.proofs.lemmas.Bool.Decides.{nat_tests}
use Rattle.std.proofs.lemmas.List.{take-append-drop}
use Rattle.radio_events.specs.declared.event.Event.{Event}
use Rattle.radio_events.specs.declared.event.Event.TheVariants.{Draw}
use Rattle.radio_events.specs.declared.entry.Entry.{Entry}
use Rattle.radio_session.specs.Hearing.{EventReading, IsHeard}
use Rattle.radio_connections.specs.declared.line.Received.{Received}
use Rattle.radio_connections.specs.declared.line.Received.TheVariants.{Bytes, Nothing, Closed as HasClosed, Fault}
use Rattle.radio_connections.specs.Lines.{HasGiven}
use Rattle.radio_connections.specs.Connections.{Connection, is_open}
use Rattle.radio_connections.specs.declared.conn.Fate.{Fate}
use Rattle.radio_connections.specs.declared.conn.Fate.TheVariants.{Open, Ended, Closed, Cut}
use Rattle.radio_connections.specs.Course.{Arrival, IsOver}
use Rattle.radio_connections.specs.Duties.{IsWritten, IsLater}
use Rattle.radio_connections.specs.Serving.{StandsBefore, Stands, IsServed}
use Rattle.radio_connections.specs.Answering.{later_by, IsUnwritten, IsSpared, IsAnswered, AreAnswered, IsHeardOn}
use Rattle.radio_connections.proofs.Askings.{unwritten_then, notes_asking}
use Rattle.radio_connections.specs.Leaving.{IsFlushed, IsPatient, IsSame}
use Rattle.radio_connections.proofs.Calling.{later_then, lacks_on}
use Rattle.radio_connections.proofs.Standing.{IsOne, still, cut_off, closed_out, heard_on, passed_over, taken_on, room_on}

pub not_cut : Cut ≡ Open → ⊥
not_cut e = cc

pub ended_not_cut : (f : Fate) → f ≡ Ended → f ≡ Cut → ⊥
ended_not_cut f e x = absurd (different (sym e ∙ x)) where
  different : Ended ≡ Cut → ⊥
  different e = cc

pub ended_not_open : (f : Fate) → f ≡ Ended → f ≡ Open → ⊥
ended_not_open f e x = absurd (different (sym e ∙ x)) where
  different : Ended ≡ Open → ⊥
  different e = cc

pub closed_not_cut : Closed ≡ Cut → ⊥
closed_not_cut e = cc

pub closed_not_ended : Closed ≡ Ended → ⊥
closed_not_ended e = cc

pub cut_not_ended : Cut ≡ Ended → ⊥
cut_not_ended e = cc

pub not_closed : Closed ≡ Open → ⊥
not_closed e = cc

pub open_from : (f : Fate) → is_open f ≡ true → f ≡ Open
open_from Open e = refl
open_from Ended e = absurd (cc)
open_from Closed e = absurd (cc)
open_from Cut e = absurd (cc)

pub over_from : (f : Fate) → is_open f ≡ false → IsOver f
over_from Open e = absurd (cc)
over_from Ended e = tt
over_from Closed e = tt
over_from Cut e = tt

pub open_is_written : (f : Fate) → f ≡ Open → IsWritten f
open_is_written f e = subst IsWritten (sym e) tt

pub ended_is_written : (f : Fate) → f ≡ Ended → IsWritten f
ended_is_written f e = subst IsWritten (sym e) tt

pub not_over : (f : Fate) → is_open f ≡ false → f ≡ Open → ⊥
not_over f over goes = absurd (false≢true (sym over ∙ ap is_open goes))

pub later_by_over : (f : Fate) (later : List Event) → is_open f ≡ false → later_by f later ≡ []
later_by_over Open later e = absurd (cc)
later_by_over Ended later e = refl
later_by_over Closed later e = refl
later_by_over Cut later e = refl

pub later_by_nil : (f : Fate) → later_by f [] ≡ []
later_by_nil Open = refl
later_by_nil Ended = refl
later_by_nil Closed = refl
later_by_nil Cut = refl

-- what has no bytes is the empty list
pub empty_is : (xs : List ℕ) → (length xs == 0) ≡ true → xs ≡ []
empty_is [] e = refl
empty_is (x ∷ xs) e = grind (arith, nat_tests, e)

pub le_by : (a b : ℕ) → nat_le a b ≡ true → a ≤ b
le_by a b e = grind (arith, nat_tests, e)

pub lt_by : (a b : ℕ) → nat_le a b ≡ false → b < a
lt_by a b e = grind (arith, nat_tests, e)

-- what is the same with these behind it has none behind it
pub none_behind : (xs ys : List ℕ) → xs ++ ys ≡ xs → ys ≡ []
none_behind [] ys e = e
none_behind (x ∷ xs) ys e = none_behind xs ys (ap (λ (zs : List ℕ). drop 1 zs) e)

-- some of some are some
pub takes_some : (n : ℕ) (xs : List ℕ) → 0 < n → 0 < length xs → take n xs ≡ [] → ⊥
takes_some zero xs some more e = lt_irrefl 0 some
takes_some (suc n) [] some more e = lt_irrefl 0 more
takes_some (suc n) (x ∷ xs) some more e = cc

pub served_then : (a b c : Connection) (xs ys : List Entry) → IsServed a xs b → IsServed b ys c → IsServed a (xs ++ ys) c
served_then a b c xs ys f g = record {
  same = g.same ∙ f.same;
  stands = λ arrival past st.
      subst (λ (zs : List Entry). Stands arrival c zs) (append_assoc past xs ys) (g.stands arrival (past ++ xs) (f.stands arrival past st));
  later = later_then a b c f.later g.later;
}

-- no entry was made
pub served_by_none : (a b : Connection) → b.id ≡ a.id → IsLater a b → ((arrival : Arrival) (past : List Entry) → Stands arrival a past → Stands arrival b past)
    → IsServed a [] b
served_by_none a b same later keeps =
    record {
      same = same;
      stands = λ arrival past st. subst (λ (zs : List Entry). Stands arrival b zs) (sym (append-nil past)) (keeps arrival past st);
      later = later;
    }

-- the same, of an equal connection

pub flushed_as : {ms : ℕ} {a b c : Connection} → a ≡ b → IsFlushed ms a c → IsFlushed ms b c
flushed_as {ms} {a} {b} {c} e = subst (λ (o : Connection). IsFlushed ms o c) e

pub patient_as : {ms patience : ℕ} {a b c : Connection} → a ≡ b → IsPatient ms patience a c → IsPatient ms patience b c
patient_as {ms} {patience} {a} {b} {c} e = subst (λ (o : Connection). IsPatient ms patience o c) e

pub served_as : {a b c : Connection} {xs : List Entry} → a ≡ b → IsServed a xs c → IsServed b xs c
served_as {a} {b} {c} {xs} e = subst (λ (o : Connection). IsServed o xs c) e

pub answered_as_one : {a b c : Connection} {event : Event} {xs : List Entry} → a ≡ b → IsAnswered event a xs c → IsAnswered event b xs c
answered_as_one {a} {b} {c} {event} {xs} e = subst (λ (o : Connection). IsAnswered event o xs c) e

-- it is cut off
pub served_by_cut : (c c' : Connection) → IsOne c c' → IsLater c c' → c'.given ≡ c.given → c'.taken ≡ c.taken → c'.status.fate ≡ Cut → IsServed c [] c'
served_by_cut c c' one calls given taken fate =
    served_by_none c c' one.id calls (λ arrival past st. cut_off c c' [] past one st [] (given ∙ sym (append-nil c.given)) taken fate)

-- or was cut off with an event
pub answered_by_cut : (c c' : Connection) (event : Event) → IsOne c c' → IsLater c c' → IsSpared c c' → c'.taken ≡ c.taken
    → c'.status.asked_ms ≡ c.status.asked_ms → c'.status.fate ≡ Cut → IsAnswered event c [] c'
answered_by_cut c c' event one calls spared taken asked fate = record {
  same = one.id;
  once = inl refl;
  made = λ goes. absurd (not_cut (sym fate ∙ goes));
  seat = λ other. one.sits;
  stands = λ arrival later past st.
      subst (λ (es : List Event). StandsBefore arrival es c' (past ++ [])) (ap (λ (f : Fate). later_by f later) (sym fate))
      (subst (λ (es : List Entry). Stands arrival c' es) (sym (append-nil past))
      (cut_off c c' (event ∷ later) past one st [] (spared.given ∙ sym (append-nil c.given)) taken fate));
  later = calls;
  spared = spared;
  asked = asked;
}

-- a connection is spared by a step after one that called no line
pub spared_then : (a b c : Connection) → IsLater a b → b.calls ≡ a.calls → b.given ≡ a.given → IsUnwritten a b → IsSpared b c → IsSpared a c
spared_then a b c before calls given unwritten spared = record {
  calls = spared.calls ∙ calls;
  given = spared.given ∙ given;
  unwritten = unwritten_then unwritten spared.unwritten;
  closed = spared.closed;
  cut = λ e. lacks_on a b c c before.refused (omega arith) refl (spared.cut e);
}

-- one that goes on is spared
pub spared_open : (a b : Connection) → b.calls ≡ a.calls → b.given ≡ a.given → IsUnwritten a b → b.status.fate ≡ Open → IsSpared a b
spared_open a b calls given unwritten goes = record {
  calls = calls;
  given = given;
  unwritten = unwritten;
  closed = λ e. not_closed (sym e ∙ goes);
  cut = λ e. absurd (not_cut (sym e ∙ goes));
}

-- its line takes some of what is pending
pub served_by_write : (c c' : Connection) (n : ℕ) → IsOne c c' → IsLater c c' → IsWritten c.status.fate → c'.outgoing ≡ drop n c.outgoing → c'.given ≡ c.given
    → c'.taken ≡ c.taken ++ take n c.outgoing → c'.session ≡ c.session
    → c'.status.fate ≡ c.status.fate → IsServed c [] c'
served_by_write c c' n one calls goes outgoing given taken session fate =
    served_by_none c c' one.id calls
    (λ arrival past st. taken_on c c' past one st goes (take n c.outgoing) (sym (take-append-drop n c.outgoing)
    ∙ ap (λ (xs : List ℕ). take n c.outgoing ++ xs) (sym outgoing)) given taken session fate)

-- other things are noted
pub served_by_note : (c c' : Connection) → IsOne c c' → IsLater c c' → IsSame c c' → c'.status.fate ≡ c.status.fate → IsServed c [] c'
served_by_note c c' one calls same fate =
    served_by_none c c' one.id calls (λ arrival past st. still c c' [] past one st same.given same.taken same.outgoing same.session fate)

-- a draw is answered
pub served_by_draw : (c c' : Connection) (room : ℕ) (entries : List Entry) → c.status.fate ≡ Open → IsAnswered (Draw c.id room) c entries c'
    → IsServed c entries c'
served_by_draw c c' room entries goes a = record {
  same = a.same;
  stands =
      λ arrival past st. subst (λ (es : List Event). StandsBefore arrival es c' (past ++ entries)) (later_by_nil c'.status.fate)
      (a.stands arrival [] past (room_on c past goes room st));
  later = a.later;
}

-- the connection takes bytes that its line gave, and their events are answered
pub heard_so : (ms : ℕ) (c m c' : Connection) (bytes : List ℕ) (heard : EventReading) (entries : List Entry) → c.status.fate ≡ Open → IsHeard c.session bytes heard
    → IsOne c m → IsLater c m → m.calls ≡ c.calls → m.given ≡ c.given → IsUnwritten c m
    → m.status.asked_ms ≡ (if length heard.events == 0 then c.status.asked_ms else ms)
    → m.outgoing ≡ c.outgoing → m.session ≡ heard.conversation → m.status.fate ≡ c.status.fate → AreAnswered heard.events m entries c'
    → IsHeardOn ms bytes c entries c'
heard_so ms c m c' bytes heard entries goes is one calls same given unwritten asked outgoing session fate a = record {
  same = a.same ∙ one.id;
  heard = inr (record { heard = heard; is = is; first = a.first });
  asking = notes_asking ms c c' heard.events entries a.all (a.asked ∙ asked);
  stands = λ arrival before past now st.
      a.stands arrival past
      (heard_on (record c { given = before }) m past (record { id = one.id; sits = one.sits; left = one.left }) st goes bytes heard is (given
      ∙ now) unwritten.taken outgoing session fate);
  later = later_then c m c' calls a.later;
  spared = spared_then c m c' calls same given unwritten a.spared;
}

-- or the connection is cut off, and does not take them
pub heard_by_cut : (ms : ℕ) (c c' : Connection) (bytes : List ℕ) → IsOne c c' → IsLater c c' → IsSpared c c' → c'.taken ≡ c.taken
    → c'.status.fate ≡ Cut → IsHeardOn ms bytes c [] c'
heard_by_cut ms c c' bytes one calls spared taken fate = record {
  same = one.id;
  heard = inl refl;
  asking = record { some = λ goes. absurd (not_cut (sym fate ∙ goes)); none = λ goes. absurd (not_cut (sym fate ∙ goes)) };
  stands = λ arrival before past now st.
      subst (λ (es : List Entry). Stands arrival c' es) (sym (append-nil past))
      (cut_off (record c { given = before }) c' [] past (record { id = one.id; sits = one.sits; left = one.left }) st bytes (spared.given ∙ now) taken fate);
  later = calls;
  spared = spared;
}

pub heard_on_one : {ms : ℕ} {a b c : Connection} {bytes : List ℕ} {xs : List Entry} → a ≡ b → IsHeardOn ms bytes a xs c → IsHeardOn ms bytes b xs c
heard_on_one {ms} {a} {b} {c} {bytes} {xs} e = subst (λ (o : Connection). IsHeardOn ms bytes o xs c) e

-- the line gives bytes, and the connection takes them
pub served_by_hearing : {ms : ℕ} (c m c' : Connection) (bytes : List ℕ) (entries : List Entry) → IsOne c m → IsLater c m → m.given ≡ c.given ++ bytes
    → m.taken ≡ c.taken → m.outgoing ≡ c.outgoing → m.session ≡ c.session
    → m.status.fate ≡ c.status.fate → IsHeardOn ms bytes m entries c' → IsServed c entries c'
served_by_hearing {ms} c m c' bytes entries one calls given taken outgoing session fate h = record {
  same = h.same ∙ one.id;
  stands = λ arrival past st.
      h.stands arrival c.given past given
      (still c (record m { given = c.given }) [] past (record { id = one.id; sits = one.sits; left = one.left }) st refl taken outgoing session fate);
  later = later_then c m c' calls h.later;
}

-- its line has closed
pub served_by_close : (c c' : Connection) → IsOne c c' → IsLater c c' → IsWritten c.status.fate → c.outgoing ≡ [] → c'.given ≡ c.given → c'.taken ≡ c.taken
    → c'.status.fate ≡ Closed → IsServed c [] c'
served_by_close c c' one calls goes outgoing given taken fate = served_by_none c c' one.id calls (λ arrival past st. closed_out c c' past one st goes outgoing given taken fate)

-- what came after its end is passed over
pub served_by_passing : (c c' : Connection) (bytes : List ℕ) → IsOne c c' → IsLater c c' → c.status.fate ≡ Ended → c'.given ≡ c.given ++ bytes
    → c'.taken ≡ c.taken → c'.outgoing ≡ c.outgoing → c'.status.fate ≡ Ended → IsServed c [] c'
served_by_passing c c' bytes one calls ended given taken outgoing fate =
    served_by_none c c' one.id calls (λ arrival past st. passed_over c c' past one st ended bytes given taken outgoing fate)

pub served_by_read_on : (c c' : Connection) (answer : Received) (buffer : List ℕ) → IsOne c c' → IsLater c c' → c.status.fate ≡ Ended
    → HasGiven answer buffer c.given c'.given → c'.taken ≡ c.taken → c'.outgoing ≡ c.outgoing
    → c'.session ≡ c.session → c'.status.fate ≡ Ended → IsServed c [] c'
served_by_read_on c c' (Bytes n) buffer one calls ended given taken outgoing session fate =
    served_by_passing c c' (take n buffer) one calls ended given.1 taken outgoing fate
served_by_read_on c c' Nothing buffer one calls ended given taken outgoing session fate =
    served_by_note c c' one calls (record { id = one.id; given = given; taken = taken; outgoing = outgoing; session = session }) (fate ∙ sym ended)
served_by_read_on c c' HasClosed buffer one calls ended given taken outgoing session fate =
    served_by_note c c' one calls (record { id = one.id; given = given; taken = taken; outgoing = outgoing; session = session }) (fate ∙ sym ended)
served_by_read_on c c' Fault buffer one calls ended given taken outgoing session fate =
    served_by_note c c' one calls (record { id = one.id; given = given; taken = taken; outgoing = outgoing; session = session }) (fate ∙ sym ended)
