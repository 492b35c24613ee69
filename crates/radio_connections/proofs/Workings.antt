-- What a connection does on which nothing is pending.
use Rattle.std.proofs.Common.{◌≡◌, inl, inr, ◌≤◌, ◌-◌, arith, ℕ, Bool, List, ap}
use Rattle.std.proofs.Common.{[], ◌++◌, append-nil, refl, sym, subst, ◌∙◌}
use Rattle.radio_events.specs.declared.entry.Entry.{Entry}
use Rattle.radio_events.specs.Servers.{Steps}
use Rattle.radio_connections.specs.Connections.{Connection}
use Rattle.radio_connections.specs.declared.conn.Fate.TheVariants.{Open, Ended, Closed, Cut}
use Rattle.radio_connections.specs.Duties.{IsReadOnce, LacksMemory}
use Rattle.radio_connections.specs.Duties.{HasEnded, WasClosed, LineHasEnded, AreAtMostHeard, IsAtMostDraw, draw_room_for}
use Rattle.radio_connections.specs.Serving.{IsServed, EndsWithDraw}
use Rattle.radio_connections.specs.Answering.{IsUnwritten}
use Rattle.radio_connections.specs.Leaving.{StaysEnded, IsFlushed, IsSparedBefore, Listens, Works, Draws}
use Rattle.radio_connections.specs.Leaving.WriteIsNoted.{TookNone}
use Rattle.radio_connections.proofs.Calling.{later_none, lacks_on, ended_on, unread_same, once_between}
use Rattle.radio_connections.proofs.Deeds.{not_over, served_then, served_by_none}
use Rattle.std.proofs.lemmas.Bool.{false≢true}
use Rattle.radio_session.specs.Conversation.{Conversation}
use Rattle.radio_session.specs.Hearing.{IsHeard}
use Rattle.radio_connections.proofs.Askings.{unwritten_then, asking_from, asking_then, none_of_first, none_of_second}
use Rattle.radio_connections.proofs.Deeds.{ended_not_open}
use Rattle.radio_connections.proofs.DeedChains.{chain_then}

module _ {S : Type 0} (steps : Steps S) where
  -- a draw calls no line
  calls_by : (a b : Connection) → IsSparedBefore a b → b.calls ≡ a.calls
  calls_by a b (inl same) = ap (λ (o : Connection). o.calls) same
  calls_by a b (inr spared) = spared.calls

  -- a connection is read from, and then drawn for
  pub works_in_turn : {ms : ℕ} {news : Bool} {from mid to : S} {a b m n c : Connection} → a ≡ b → a.status.fate ≡ Open → m.calls ≡ a.calls
      → m.status.moved_ms ≡ ms → m.given ≡ a.given → m.session ≡ a.session → m.taken ≡ a.taken → m.status.has_taken ≡ a.status.has_taken
      → m.status.is_finished ≡ a.status.is_finished → m.status.asked_ms ≡ a.status.asked_ms → IsServed a [] m
      → Listens steps ms from m mid n → Draws steps ms news mid n to c → Works steps ms news from b to c
  works_in_turn {ms} {news} {from} {mid} {to} {a} {b} {m} {n} {c} e goes calls now given session taken has_taken finished asked first heard drew = subst (λ (o : Connection). Works steps ms news from o to c) e (record {
    entries = heard.entries ++ drew.entries;
    chain = chain_then steps from mid to heard.entries drew.entries heard.chain drew.chain;
    served = served_then a m c [] (heard.entries ++ drew.entries) first (served_then m n c heard.entries drew.entries heard.served drew.served);
    drawn = λ new none goes sits.
        let last = drew.drawn new (sym drew.sits ∙ sits) goes in
        subst (λ (id : ℕ). EndsWithDraw id (heard.entries ++ drew.entries)) same_id
        (heard.entries, last.0, ap (λ (xs : List Entry). heard.entries ++ xs) last.1);
    asked = λ o. once;
    once = inr once;
    cut = λ e. inr (goes, by_cut drew.spared e);
    closed = λ e. LineHasEnded (by_close drew.spared e);
    lingers = λ e. inl goes;
    taken = all.taken ∙ taken;
    has_taken = all.has_taken ∙ has_taken;
    idle = λ o. (all.moved ∙ now, all.finished ∙ finished);
    over = λ rests. absurd (rests goes);
    finished = λ now_finished. absurd (false≢true (sym now_finished.0 ∙ sym (all.finished ∙ finished) ∙ now_finished.1));
    heard = heard.entries;
    draws = drew.entries;
    all = refl;
    asks = by_asks heard.heard;
    draws_once = subst (λ (id : ℕ). IsAtMostDraw id (draw_room_for c.status.sits) drew.entries) same_id
        (subst (λ (sits : Bool). IsAtMostDraw n.id (draw_room_for sits) drew.entries) (sym drew.sits) drew.once);
    asked_for = λ stays_on long none. drew.asked_for (subst (λ (n : ℕ). 500 ≤ ms - n) (sym (still_asked stays_on none)) long) stays_on
        (none_of_second heard.entries drew.entries none);
    asking = asking_from asked (asking_then drew.goes heard.asking drew.asking);
  }) where
    same_id : n.id ≡ a.id
    same_id = heard.served.same ∙ first.same

    all : IsUnwritten m c
    all = unwritten_then heard.unwritten drew.unwritten

    still_asked : c.status.fate ≡ Open → heard.entries ++ drew.entries ≡ [] → n.status.asked_ms ≡ a.status.asked_ms
    still_asked stays_on none = heard.asking.none (drew.goes stays_on) (none_of_first heard.entries drew.entries none) ∙ asked

    once : IsReadOnce a c
    once = once_between a m n c (unread_same calls) heard.read (unread_same (calls_by n c drew.spared))

    by_cut : IsSparedBefore n c → c.status.fate ≡ Cut → LacksMemory a c
    by_cut (inl same) e =
        lacks_on a m n c first.later.refused drew.served.later.refused (ap (λ (o : Connection). o.session) same)
        (heard.cut (ap (λ (o : Connection). o.status.fate) (sym same) ∙ e))
    by_cut (inr spared) e = lacks_on a n c c (omega (arith, first.later.refused, heard.served.later.refused)) (omega arith) refl (spared.cut e)

    by_close : IsSparedBefore n c → c.status.fate ≡ Closed → HasEnded a c
    by_close (inl same) e =
        ended_on a m n c first.later drew.served.later (heard.closed (ap (λ (o : Connection). o.status.fate) (sym same) ∙ e))
    by_close (inr spared) e = absurd (spared.closed e)

    by_asks : AreAtMostHeard m heard.entries n → AreAtMostHeard a heard.entries c
    by_asks (inl none) = inl none
    by_asks (inr is) = inr (record {
      bytes = is.bytes;
      heard = is.heard;
      given = drew.given ∙ is.given ∙ ap (λ (xs : List ℕ). xs ++ is.bytes) given;
      is = subst (λ (x : Conversation). IsHeard x is.bytes is.heard) session is.is;
      first = is.first;
    })

  -- one that has ended is not asked for
  pub ends_in_turn : {ms : ℕ} {news : Bool} (from : S) {c c' : Connection} → c.status.fate ≡ Ended → StaysEnded ms c c' → Works steps ms news from c from c'
  ends_in_turn {ms} {news} from {c} {c'} ended ends = record {
    entries = [];
    chain = refl;
    served = ends.served;
    drawn = λ new none goes sits. absurd (not_over c'.status.fate ends.over goes);
    asked = λ goes. absurd (ended_not_open c.status.fate ended goes);
    once = ends.once;
    cut = λ e. absurd (ends.whole e);
    closed = ends.closed;
    lingers = λ e. inr (ended, ends.lingers e);
    taken = ends.taken;
    has_taken = ends.has_taken;
    idle = λ goes. absurd (ended_not_open c.status.fate ended goes);
    over = λ rests. ends.noted;
    finished = λ now_finished. ended;
    heard = [];
    draws = [];
    all = refl;
    asks = inl refl;
    draws_once = inl refl;
    asked_for = λ goes long none. absurd (not_over c'.status.fate ends.over goes);
    asking = record { some = λ goes some. absurd (some refl); none = λ goes none. absurd (not_over c'.status.fate ends.over goes) };
  }

  -- nor one that was closed or cut off
  pub rests_in_turn : {ms : ℕ} {news : Bool} (from : S) (c : Connection) → (c.status.fate ≡ Open → ⊥) → (c.status.fate ≡ Ended → ⊥)
      → Works steps ms news from c from c
  rests_in_turn {ms} {news} from c rests over = record {
    entries = [];
    chain = refl;
    served = served_by_none c c refl (later_none c) (λ arrival past st. st);
    drawn = λ new none goes sits. absurd (rests goes);
    asked = λ goes. absurd (rests goes);
    once = inl (unread_same refl);
    cut = λ e. inl e;
    closed = λ e. WasClosed e;
    lingers = λ e. absurd (over e);
    taken = refl;
    has_taken = refl;
    idle = λ goes. absurd (rests goes);
    over = λ o. inl (refl, refl);
    finished = λ now_finished. absurd (false≢true (sym now_finished.0 ∙ now_finished.1));
    heard = [];
    draws = [];
    all = refl;
    asks = inl refl;
    draws_once = inl refl;
    asked_for = λ goes long none. absurd (rests goes);
    asking = record { some = λ goes some. absurd (rests goes); none = λ goes none. refl };
  }

-- one on which nothing is pending is as it was when it was written to
pub flushed_none : {ms : ℕ} {c : Connection} → c.outgoing ≡ [] → IsFlushed ms c c
flushed_none {ms} {c} none = record {
  served = served_by_none c c refl (later_none c) (λ arrival past st. st);
  goes = λ goes. goes;
  sits = refl;
  none = λ is. is;
  all = λ is. sym (append-nil c.taken) ∙ ap (λ (xs : List ℕ). c.taken ++ xs) (sym is);
  idle = λ is. refl;
  unread = record { reads = refl; room = refl };
  session = refl;
  given = λ written owed. absurd (owed none);
  cut = λ is. inl is;
  fate = λ other. refl;
  noted = TookNone refl refl;
  given_same = refl;
  closings = refl;
  faults = λ other. refl;
}
