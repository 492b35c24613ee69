-- Entries of a server made for a connection, each on the one before.
use Rattle.std.proofs.Common.{◌≡◌, ◌⊎◌, inl, inr, arith, ℕ, Bool, true, false, List, ap}
use Rattle.std.proofs.Common.{[], ◌∷◌, ◌++◌, refl, sym, subst, ◌∙◌}
use Rattle.std.specs.Prelude.{get_or}
use Rattle.radio_events.specs.declared.event.Event.TheVariants.{Draw, Leave}
use Rattle.radio_events.specs.declared.reply.Reply.{Reply}
use Rattle.radio_events.specs.declared.entry.Entry.{Entry}
use Rattle.radio_events.specs.Events.{entry}
use Rattle.radio_events.specs.Servers.{Steps, Chain}
use Rattle.radio_connections.specs.Connections.{Connection, is_open}
use Rattle.radio_connections.specs.declared.conn.Fate.TheVariants.{Open, Closed, Cut}
use Rattle.radio_connections.specs.Duties.{IsReadOnce, LacksMemory}
use Rattle.radio_connections.specs.Duties.{HasEnded, ClientHasLeft, AreAtMostHeard, IsUnasked, IsAtMostDraw, draw_room_for}
use Rattle.radio_connections.specs.Rooms.{draw_room}
use Rattle.radio_connections.specs.Serving.{IsServed, IsOneDraw}
use Rattle.radio_connections.specs.Answering.{IsAnswered, IsUnwritten, AreOf, IsHeardOn}
use Rattle.radio_connections.specs.Leaving.{IsSame, Listens, Leaves, DrawsFor, Draws, NotesMore}
use Rattle.radio_connections.specs.Connections.{Refused, one_refusal}
use Rattle.radio_connections.proofs.Calling.{later_same, later_none, later_by_refusal, lacks_on, unread_same, once_between}
use Rattle.radio_connections.proofs.Standing.{IsOne, left_on}
use Rattle.radio_connections.proofs.Deeds.{open_from, over_from, not_over, served_then, served_by_draw, served_by_none, served_by_note}
use Rattle.std.proofs.lemmas.Bool.{false≢true}
use Rattle.radio_session.specs.Conversation.{Conversation}
use Rattle.radio_session.specs.Hearing.{IsHeard}
use Rattle.radio_connections.proofs.Askings.{unwritten_none, unwritten_then, asked_at, asking_from}

pub same_reply : (id room : ℕ) (one other : Reply) → entry (Draw id room) one ∷ [] ≡ entry (Draw id room) other ∷ [] → one ≡ other
same_reply id room one other is = ap (λ (made : List Entry). (get_or made 0 (entry (Draw id room) one)).reply) is

module _ {S : Type 0} (steps : Steps S) where
  pub chain_then : (from mid to : S) (xs ys : List Entry) → Chain steps from xs mid → Chain steps mid ys to → Chain steps from (xs ++ ys) to
  chain_then from mid to [] ys a b = subst (λ (s : S). Chain steps s ys to) a b
  chain_then from mid to (x ∷ xs) ys a b = (a.0, a.1, chain_then a.0 mid to xs ys a.2 b)

  pub chain_one : (from to : S) (e : Entry) → steps from e.event e.reply to → Chain steps from (e ∷ []) to
  chain_one from to e s = (to, s, refl)

  -- it draws: a draw of a connection that is seen as this one is answered
  pub draws_for_one : (room : ℕ) {from to : S} {seen c c' : Connection} → seen ≡ c → c.status.fate ≡ Open → (entries : List Entry)
      → Chain steps from entries to → IsAnswered (Draw seen.id room) seen entries c' → NotesMore seen.id room entries c' → DrawsFor steps room from c to c'
  draws_for_one room {from} {to} {seen} {c} {c'} is goes entries chain answered more =
      let a : IsAnswered (Draw c.id room) c entries c' = subst (λ (o : Connection). IsAnswered (Draw o.id room) o entries c') is answered in
      record {
        entries = entries;
        chain = chain;
        served = served_by_draw c c' room entries goes a;
        drawn = a.made;
        once = a.once;
        sits = a.seat refl;
        asked = a.asked;
        more = subst (λ (o : Connection). NotesMore o.id room entries c') is more;
        spared = a.spared;
      }

  -- its client leaves
  pub leaves_so : (from to : S) (c c' : Connection) → ((reply : Reply) × steps from (Leave c.id) reply to) → is_open c.status.fate ≡ false
      → c.status.has_left ≡ false → IsSame c c' → c'.calls ≡ c.calls → c'.refused ≡ c.refused
      → c'.status.fate ≡ c.status.fate → c'.status.sits ≡ c.status.sits → c'.status.has_left ≡ true
      → c'.status ≡ record c.status { has_left = c'.status.has_left } → Leaves steps from c to c'
  leaves_so from to c c' r over here same calls refused fate sits left noted = record {
    entries = entry (Leave c.id) r.0 ∷ [];
    chain = chain_one from to (entry (Leave c.id) r.0) r.1;
    served = record {
      same = same.id;
      stands = λ arrival past st. left_on c c' past r.0 same.id (over_from c.status.fate over) here same.given same.taken same.outgoing same.session fate sits left st;
      later = later_same calls same.taken refused;
    };
    alone = λ goes. absurd (not_over c.status.fate over goes);
    leaving = inr (r.0, refl);
    again = λ gone. absurd (false≢true (sym here ∙ gone));
    gone = inr left;
    fate = fate;
    sits = sits;
    calls = calls;
    same = same;
    noted = noted;
    left = λ ended. inl left;
  }

  -- or has left before, or is not over
  pub leaves_nothing : {from to : S} {c : Connection} → to ≡ from → ClientHasLeft c c → Leaves steps from c to c
  leaves_nothing {from} {to} {c} e left = record {
    entries = [];
    chain = e;
    served = served_by_none c c refl (later_none c) (λ arrival past st. st);
    alone = λ goes. refl;
    leaving = inl refl;
    again = λ gone. refl;
    gone = inl refl;
    fate = refl;
    sits = refl;
    calls = refl;
    same = record { id = refl; given = refl; taken = refl; outgoing = refl; session = refl };
    noted = refl;
    left = left;
  }

  -- or it is refused
  pub leaves_not : {from to : S} {c c' : Connection} → to ≡ from → IsOne c c' → IsSame c c' → c'.calls ≡ c.calls
      → c'.refused ≡ one_refusal (Leave c.id) c.refused → c'.status.fate ≡ c.status.fate → c'.status ≡ record c.status { has_left = c'.status.has_left }
      → Leaves steps from c to c'
  leaves_not {from} {to} {c} {c'} e one same calls refused fate noted = record {
    entries = [];
    chain = e;
    served = served_by_note c c' one (later_by_refusal (Leave c.id) calls same.taken refused) same fate;
    alone = λ goes. refl;
    leaving = inl refl;
    again = λ gone. refl;
    gone = inl refl;
    fate = fate;
    sits = one.sits;
    calls = calls;
    same = same;
    noted = noted;
    left = λ ended. inr (omega (arith, ap (λ (x : Refused). x.leavings) refused));
  }

  pub leaves_as : {from to : S} {a b c : Connection} → a ≡ b → Leaves steps from a to c → Leaves steps from b to c
  leaves_as {from} {to} {a} {b} {c} e = subst (λ (o : Connection). Leaves steps from o to c) e

  pub draws_as : {ms : ℕ} {news : Bool} {from to : S} {a b c : Connection} → a ≡ b → Draws steps ms news from a to c → Draws steps ms news from b to c
  draws_as {ms} {news} {from} {to} {a} {b} {c} e = subst (λ (o : Connection). Draws steps ms news from o to c) e

  pub listens_as : {ms : ℕ} {from to : S} {a b c : Connection} → a ≡ b → Listens steps ms from a to c → Listens steps ms from b to c
  listens_as {ms} {from} {to} {a} {b} {c} e = subst (λ (o : Connection). Listens steps ms from o to c) e

  -- the connection reads bytes, and takes them
  pub listens_by_hearing : {ms : ℕ} {from to : S} {c m c' : Connection} {bytes : List ℕ} {entries : List Entry} → Chain steps from entries to
      → IsServed c entries c' → IsReadOnce c m → m.refused ≡ c.refused → m.given ≡ c.given ++ bytes → m.session ≡ c.session → IsUnwritten c m
      → m.status.asked_ms ≡ c.status.asked_ms → IsHeardOn ms bytes m entries c' → Listens steps ms from c to c'
  listens_by_hearing {ms} {from} {to} {c} {m} {c'} {bytes} {entries} chain served read refused given session unwritten asked heard = record {
    entries = entries;
    chain = chain;
    served = served;
    read = once_between c c m c' (unread_same refl) read (unread_same heard.spared.calls);
    cut =
        λ e. lacks_on c m c' c' (omega (arith, ap (λ (x : Refused). x.events) refused)) (omega arith) refl (heard.spared.cut e);
    closed = λ e. absurd (heard.spared.closed e);
    heard = by_heard heard.heard;
    asking = asking_from asked heard.asking;
    unwritten = unwritten_then unwritten heard.spared.unwritten;
  } where
    by_heard : (entries ≡ []) ⊎ AreOf m bytes entries → AreAtMostHeard c entries c'
    by_heard (inl none) = inl none
    by_heard (inr is) = inr (record {
      bytes = bytes;
      heard = is.heard;
      given = heard.spared.given ∙ given;
      is = subst (λ (x : Conversation). IsHeard x bytes is.heard) session is.is;
      first = is.first;
    })

  -- the connection takes no bytes
  pub listens_to_none : {ms : ℕ} {from : S} {c c' : Connection} → IsServed c [] c' → IsReadOnce c c' → (c'.status.fate ≡ Cut → LacksMemory c c')
      → (c'.status.fate ≡ Closed → HasEnded c c') → IsUnwritten c c' → c'.status.asked_ms ≡ c.status.asked_ms → Listens steps ms from c from c'
  listens_to_none {ms} {from} {c} {c'} served read cut closed unwritten asked = record {
    entries = [];
    chain = refl;
    served = served;
    read = read;
    cut = cut;
    closed = closed;
    heard = inl refl;
    asking = record { some = λ goes some. absurd (some refl); none = λ goes none. asked };
    unwritten = unwritten;
  }

  -- a client need not draw if it has no seat, does not go on, or has neither news nor more to draw
  pub draws_nothing : (ms : ℕ) (news : Bool) (from : S) (c : Connection) → (news ≡ true → c.status.sits ≡ true → c.status.fate ≡ Open → ⊥)
      → (c.status.is_behind ≡ true → c.status.sits ≡ true → c.status.fate ≡ Open → ⊥)
      → (IsUnasked ms c → c.status.fate ≡ Open → ⊥) → Draws steps ms news from c from c
  draws_nothing ms news from c idle whole asked = record {
    entries = [];
    chain = refl;
    served = served_by_none c c refl (later_none c) (λ arrival past st. st);
    goes = λ e. e;
    drawn = λ new sits goes. absurd (idle new sits goes);
    drawn_on = λ more sits goes. absurd (whole more sits goes);
    more = λ reply is. let none : [] ≡ entry (Draw c.id (draw_room_for c.status.sits)) reply ∷ [] = is in cc;
    asked_for = λ long goes none. asked long goes;
    once = inl refl;
    sits = refl;
    asking = record { some = λ goes some. absurd (some refl); none = λ goes none. refl };
    given = refl;
    unwritten = unwritten_none c;
    spared = inl refl;
  }

  -- its moment is noted, and then it draws
  pub draws_after : {ms room : ℕ} {news : Bool} {from to : S} {a c : Connection} → is_open a.status.fate ≡ true → (a.status.sits ≡ true → room ≡ draw_room)
      → room ≡ draw_room_for a.status.sits → DrawsFor steps room from (asked_at ms a) to c → Draws steps ms news from a to c
  draws_after {ms} {room} {news} {from} {to} {a} {c} goes full fits drew = record {
    entries = drew.entries;
    chain = drew.chain;
    served =
        served_then a (asked_at ms a) c [] drew.entries
        (served_by_note a (asked_at ms a) (record { id = refl; sits = refl; left = refl }) (later_same refl refl refl)
        (record { id = refl; given = refl; taken = refl; outgoing = refl; session = refl }) refl) drew.served;
    goes = λ stays_on. open_from a.status.fate goes;
    drawn = λ new sits. subst (λ (n : ℕ). IsOneDraw a.id n drew.entries c) (full sits) drew.drawn;
    drawn_on = λ more sits. subst (λ (n : ℕ). IsOneDraw a.id n drew.entries c) (full sits) drew.drawn;
    more = subst (λ (n : ℕ). NotesMore a.id n drew.entries c) fits drew.more;
    asked_for = λ long stays_on none. no_entry (drew.drawn stays_on) none;
    once = subst (λ (n : ℕ). IsAtMostDraw a.id n drew.entries) fits drew.once;
    sits = drew.sits;
    asking = record { some = λ stays_on some. drew.asked; none = λ stays_on none. absurd (no_entry (drew.drawn stays_on) none) };
    given = drew.spared.given;
    unwritten = still;
    spared = inr (record {
      calls = drew.spared.calls;
      given = drew.spared.given;
      unwritten = still;
      closed = drew.spared.closed;
      cut = drew.spared.cut;
    });
  } where
    still : IsUnwritten a c
    still = unwritten_then {b = asked_at ms a} (record { taken = refl; moved = refl; has_taken = refl; finished = refl }) drew.spared.unwritten

    no_entry : (reply : Reply) × (drew.entries ≡ entry (Draw a.id room) reply ∷ []) → drew.entries ≡ [] → ⊥
    no_entry one none = empty (sym none ∙ one.1) where
      empty : [] ≡ entry (Draw a.id room) one.0 ∷ [] → ⊥
      empty e = cc
