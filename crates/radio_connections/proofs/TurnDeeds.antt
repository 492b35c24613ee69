-- A connection's turn, put together.
use Rattle.std.proofs.Common.{◌≡◌, ◌⊎◌, inl, inr, ◌<◌, ◌≤◌, ◌-◌, arith, ℕ, Bool, true, List, ap}
use Rattle.std.proofs.Common.{[], ◌++◌, refl, sym, subst, ◌∙◌, append_assoc, append-nil}
use Rattle.radio_events.specs.declared.entry.Entry.{Entry}
use Rattle.radio_events.specs.Servers.{Steps}
use Rattle.radio_connections.specs.Connections.{Connection}
use Rattle.radio_connections.specs.declared.conn.Fate.TheVariants.{Open, Ended, Closed, Cut}
use Rattle.radio_connections.specs.declared.conn.ConnStatus.{ConnStatus}
use Rattle.radio_connections.specs.Duties.{IsWritten, IsLater, LineIsUnread, IsAtMostLeaving, HasTakenAll, HasStalled, LacksMemory, WhyCut, WasCut, HasFailed, TookNothing, WasRefused}
use Rattle.radio_connections.specs.Duties.{HasEnded, WhyClosed, WasClosed, LineHasEnded, NothingWritten, LingeredOn, Lingers, AreAtMostHeard, IsAtMostDraw, draw_room_for}
use Rattle.radio_connections.specs.Serving.{EndsWithDraw, ServesInTurn}
use Rattle.radio_connections.specs.Answering.{IsUnwritten}
use Rattle.radio_connections.specs.Leaving.{IsFlushed, IsPatient, Works, Leaves}
use Rattle.radio_connections.proofs.Calling.{later_then, lacks_on, ended_on, unread_same, unread_then, once_between, once_at_most}
use Rattle.radio_connections.proofs.Deeds.{ended_not_cut, closed_not_cut, served_then}
use Rattle.radio_session.specs.Conversation.{Conversation}
use Rattle.radio_session.specs.Hearing.{IsHeard}
use Rattle.radio_connections.proofs.Askings.{none_of_first}
use Rattle.radio_connections.specs.Lines.{Calls}
use Rattle.radio_connections.specs.Leaving.{WriteIsNoted, TookNone, TookSome}
use Rattle.radio_connections.proofs.Deeds.{ended_not_open}
use Rattle.radio_connections.proofs.DeedChains.{chain_then}
use Rattle.radio_connections.proofs.Moments.{unwritten_by_leaving, noted_finished, noted_asked, noted_on, noted_left, moved_in_turn, not_moved, finished_in, notes_taking}
use Rattle.radio_connections.proofs.Moments.{unwritten_behind, kept_unfinished, kept_moved, kept_same, kept_notes}
use Rattle.radio_connections.proofs.Lingerings.{not_long}

module _ {S : Type 0} (steps : Steps S) where
  -- why it is cut off, once it was worked for
  cause_of : {news : Bool} {from one : S} {ms patience : ℕ} {a b c d e f : Connection} → IsFlushed ms a b → b.outgoing ≡ [] → Works steps ms news from b one c → IsLater c d
      → d.status.fate ≡ c.status.fate → d.session ≡ c.session → IsFlushed ms d e → IsLater e f → f.status.fate ≡ e.status.fate → f.session ≡ e.session
      → f.status.fate ≡ Cut → WhyCut ms patience a f
  cause_of {news} {from} {one} {ms} {patience} {a} {b} {c} {d} {e} {f} first none works on left left_session last over same same_session cut = by_last (last.cut (sym same ∙ cut)) where
    grown : b.calls.faults ≤ f.calls.faults
    grown = omega (arith, works.served.later.faults, on.faults, last.served.later.faults, over.faults)

    by_first : (a.status.fate ≡ Cut) ⊎ (a.calls.faults < b.calls.faults) → WhyCut ms patience a f
    by_first (inl was) = WasCut was
    by_first (inr more) = HasFailed (omega (arith, more, grown))

    by_work : (b.status.fate ≡ Cut) ⊎ ((b.status.fate ≡ Open) × LacksMemory b c) → WhyCut ms patience a f
    by_work (inl was) = by_first (first.cut was)
    by_work (inr (goes, lacks)) =
        WasRefused (first.goes goes)
        (lacks_on a b c f first.served.later.refused (omega (arith, on.refused, last.served.later.refused, over.refused))
        (same_session ∙ last.session ∙ left_session) lacks)

    by_last : (d.status.fate ≡ Cut) ⊎ (d.calls.faults < e.calls.faults) → WhyCut ms patience a f
    by_last (inl was) = by_work (works.cut (sym left ∙ was))
    by_last (inr more) = HasFailed (omega (arith, first.served.later.faults, works.served.later.faults, on.faults, more, over.faults))

  -- why it is closed, once it was worked for
  closed_of : {news : Bool} {from one two to : S} {ms : ℕ} {a b c d e f : Connection} → IsFlushed ms a b → Works steps ms news from b one c
      → Leaves steps one c two d → IsFlushed ms d e → Leaves steps two e to f → f.status.fate ≡ Closed → WhyClosed ms a f
  closed_of {news} {from} {one} {two} {to} {ms} {a} {b} {c} {d} {e} {f} first works left last over closed = by_work (works.closed at_c) where
    at_e : e.status.fate ≡ Closed
    at_e = sym over.fate ∙ closed

    at_c : c.status.fate ≡ Closed
    at_c = sym left.fate ∙ sym (last.fate (λ cut. closed_not_cut (sym at_e ∙ cut))) ∙ at_e

    ended_before : b.status.fate ≡ Ended → a.status.fate ≡ Ended
    ended_before was = sym (first.fate (ended_not_cut b.status.fate was)) ∙ was

    -- nothing is written on what is closed
    untouched : WriteIsNoted ms d e → e.status.has_taken ≡ d.status.has_taken
    untouched (TookNone taken noted) = ap (λ (s : ConnStatus). s.has_taken) noted
    untouched (TookSome some goes noted) = absurd (subst IsWritten (left.fate ∙ at_c) goes)

    still : f.status.has_taken ≡ c.status.has_taken
    still = (unwritten_by_leaving steps over).has_taken ∙ untouched last.noted ∙ (unwritten_by_leaving steps left).has_taken

    long_before : WriteIsNoted ms a b → 1000 ≤ ms - b.status.moved_ms → 1000 ≤ ms - a.status.moved_ms
    long_before (TookNone taken noted) long = subst (λ (n : ℕ). 1000 ≤ ms - n) (ap (λ (s : ConnStatus). s.moved_ms) noted) long
    long_before (TookSome some goes noted) long = absurd (not_long ms b.status.moved_ms (ap (λ (s : ConnStatus). s.moved_ms) noted) long)

    by_work : WhyClosed ms b c → WhyClosed ms a f
    by_work (WasClosed was) = WasClosed (sym (first.fate (λ cut. closed_not_cut (sym was ∙ cut))) ∙ was)
    by_work (LineHasEnded ended) =
        LineHasEnded (ended_on a b c f first.served.later
        (later_then c d f left.served.later (later_then d e f last.served.later over.served.later)) ended)
    by_work (NothingWritten ended none) = NothingWritten (ended_before ended) (still ∙ none)
    by_work (LingeredOn lingered) = LingeredOn (record {
      ended = ended_before lingered.ended;
      finished = sym (noted_finished first.noted) ∙ lingered.finished;
      long = long_before first.noted lingered.long;
    })

  -- a connection lingers on after its turn
  let_go_of : {news : Bool} {from one two to : S} {ms : ℕ} {a b c d e f : Connection} → IsFlushed ms a b → Works steps ms news from b one c
      → Leaves steps one c two d → IsFlushed ms d e → Leaves steps two e to f → a.status.fate ≡ Ended → f.status.fate ≡ Ended → Lingers ms a f
  let_go_of {news} {from} {one} {two} {to} {ms} {a} {b} {c} {d} {e} {f} first works left last over before after = by_work (works.lingers at_c) where
    at_e : e.status.fate ≡ Ended
    at_e = sym over.fate ∙ after

    at_c : c.status.fate ≡ Ended
    at_c = sym left.fate ∙ sym (last.fate (ended_not_cut e.status.fate at_e)) ∙ at_e

    -- its line was written to, and has not failed
    kept : (b.status.fate ≡ Cut → ⊥) → (HasEnded b c → ⊥) → HasEnded a f → ⊥
    kept whole goes (inl more) =
        goes (inl (omega (arith, first.closings, ap (λ (x : Calls). x.closings) left.calls, last.closings, ap (λ (x : Calls). x.closings) over.calls, more)))
    kept whole goes (inr more) =
        goes (inr (omega (
          arith,
          first.faults whole,
          ap (λ (x : Calls). x.faults) left.calls,
          last.faults (ended_not_cut e.status.fate at_e),
          ap (λ (x : Calls). x.faults) over.calls,
          more,
        )))

    in_time : WriteIsNoted ms d e → ms - c.status.moved_ms < 1000 → ms - e.status.moved_ms < 1000
    in_time (TookNone taken noted) short =
        subst (λ (n : ℕ). ms - n < 1000) (sym (ap (λ (s : ConnStatus). s.moved_ms) noted ∙ (unwritten_by_leaving steps left).moved)) short
    in_time (TookSome some goes noted) short = omega (arith, ap (λ (s : ConnStatus). s.moved_ms) noted)

    by_work : (b.status.fate ≡ Open) ⊎ ((b.status.fate ≡ Ended) × Lingers ms b c) → Lingers ms a f
    by_work (inl goes) = absurd (ended_not_open a.status.fate before (first.goes goes))
    by_work (inr r) = record {
      written = (unwritten_by_leaving steps over).has_taken ∙ noted_on last.noted ((unwritten_by_leaving steps left).has_taken ∙ r.1.written);
      finished = (unwritten_by_leaving steps over).finished ∙ noted_finished last.noted ∙ (unwritten_by_leaving steps left).finished ∙ r.1.finished;
      read = once_between a b c f first.unread r.1.read
          (unread_then c d f (unread_same left.calls) (unread_then d e f last.unread (unread_same over.calls)));
      goes = kept (ended_not_cut b.status.fate r.0) r.1.goes;
      in_time = subst (λ (n : ℕ). ms - n < 1000) (sym (unwritten_by_leaving steps over).moved) (in_time last.noted r.1.in_time);
    }

  -- a client that has left does not leave again
  at_most_once : {from mid two to : S} {c d e f : Connection} (left : Leaves steps from c mid d) (over : Leaves steps two e to f) → e.id ≡ c.id
      → e.status.has_left ≡ d.status.has_left → IsAtMostLeaving c.id (left.entries ++ over.entries)
  at_most_once {from} {mid} {two} {to} {c} {d} {e} {f} left over same kept = by_first left.gone where
    by_first : (left.entries ≡ []) ⊎ (d.status.has_left ≡ true) → IsAtMostLeaving c.id (left.entries ++ over.entries)
    by_first (inl none) =
        subst (λ (xs : List Entry). IsAtMostLeaving c.id (xs ++ over.entries)) (sym none)
        (subst (λ (id : ℕ). IsAtMostLeaving id over.entries) same over.leaving)
    by_first (inr gone) =
        subst (λ (xs : List Entry). IsAtMostLeaving c.id xs) (sym (append-nil left.entries)
        ∙ ap (λ (xs : List Entry). left.entries ++ xs) (sym (over.again (kept ∙ gone)))) left.leaving

  -- a connection is written to and worked for, its client leaves if it is over, and it is written to again
  pub served_in_turn : {news : Bool} {from one two to : S} {ms patience : ℕ} {a b c d e f : Connection} → IsFlushed ms a b → b.outgoing ≡ []
      → Works steps ms news from b one c → Leaves steps one c two d → IsFlushed ms d e → Leaves steps two e to f
      → ServesInTurn steps ms patience news from a to f
  served_in_turn {news} {from} {one} {two} {to} {ms} {patience} {a} {b} {c} {d} {e} {f} first none works left last over = record {
    entries = works.entries ++ (left.entries ++ over.entries);
    chain =
        chain_then steps from one to works.entries (left.entries ++ over.entries) works.chain (chain_then steps one two to left.entries over.entries left.chain over.chain);
    served =
        served_then a b f [] (works.entries ++ (left.entries ++ over.entries)) first.served
        (served_then b c f works.entries (left.entries ++ over.entries) works.served
        (served_then c d f left.entries over.entries left.served (served_then d e f [] over.entries last.served over.served)));
    drawn = λ new nothing goes sits.
        let drawn = works.drawn new (first.none nothing) (open_before goes) (sym left.sits ∙ sym last.sits ∙ sym over.sits ∙ sits) in
        subst (λ (id : ℕ). EndsWithDraw id (works.entries ++ (left.entries ++ over.entries))) first.served.same (drawn.0, drawn.1, alone goes ∙ drawn.2);
    asked = λ goes nothing. once_between a b c f first.unread (works.asked (first.idle nothing ∙ goes)) unread;
    once = once_at_most a b c f first.unread works.once unread;
    given =
        λ goes some. omega
        (arith, first.given goes some, works.served.later.writes, left.served.later.writes, last.served.later.writes, over.served.later.writes);
    waited = inl all;
    in_time = λ written. inl all;
    moved = moved_in_turn steps first none works left last over rest;
    unmoved = not_moved steps first none works left last over rest;
    taking = notes_taking steps first none works left last over rest;
    cut = cause_of first none works left.served.later left.fate left.same.session last over.served.later over.fate over.same.session;
    closed = closed_of first works left last over;
    let_go = λ before after nothing. let_go_of first works left last over before after;
    finished = λ now_finished. (ended_before (works.finished (finished_in steps first none works left last over rest now_finished)), all);
    left = λ ended. by_leave (over.left ended);
    one = record {
      heard = works.heard;
      drawn = works.draws;
      left = left.entries ++ over.entries;
      all = ap (λ (xs : List Entry). xs ++ (left.entries ++ over.entries)) works.all ∙ append_assoc works.heard works.draws (left.entries ++ over.entries);
      asks = by_asks works.asks;
      draws = subst (λ (id : ℕ). IsAtMostDraw id (draw_room_for f.status.sits) works.draws) first.served.same
          (subst (λ (sits : Bool). IsAtMostDraw b.id (draw_room_for sits) works.draws) (sym (over.sits ∙ last.sits ∙ left.sits)) works.draws_once);
      leaves = subst (λ (id : ℕ). IsAtMostLeaving id (left.entries ++ over.entries)) (works.served.same ∙ first.served.same)
          (at_most_once left over (last.served.same ∙ left.served.same) (noted_left last.noted));
    };
    asked_for = λ nothing goes long empty. works.asked_for (open_before goes) (subst (λ (n : ℕ). 500 ≤ ms - n) (sym (noted_asked first.noted)) long)
        (none_of_first works.entries (left.entries ++ over.entries) empty);
    asking = record {
      some = λ goes some. still_asked ∙ works.asking.some (open_before goes) (λ e. some (alone goes ∙ e));
      none = λ goes empty. still_asked ∙ works.asking.none (open_before goes) (sym (alone goes) ∙ empty) ∙ noted_asked first.noted;
    };
  } where
    unread : LineIsUnread c f
    unread = unread_then c d f (unread_same left.calls) (unread_then d e f last.unread (unread_same over.calls))

    open_before : f.status.fate ≡ Open → c.status.fate ≡ Open
    open_before goes = sym left.fate ∙ last.goes (sym over.fate ∙ goes)

    -- a client that goes on does not leave
    alone : f.status.fate ≡ Open → works.entries ++ (left.entries ++ over.entries) ≡ works.entries
    alone goes =
        ap (λ (xs : List Entry). works.entries ++ (xs ++ over.entries)) (left.alone (open_before goes))
        ∙ ap (λ (xs : List Entry). works.entries ++ xs) (over.alone (sym over.fate ∙ goes)) ∙ append-nil works.entries

    still_asked : f.status.asked_ms ≡ c.status.asked_ms
    still_asked = ap (λ (s : ConnStatus). s.asked_ms) over.noted ∙ noted_asked last.noted ∙ ap (λ (s : ConnStatus). s.asked_ms) left.noted

    ended_before : b.status.fate ≡ Ended → a.status.fate ≡ Ended
    ended_before was = sym (first.fate (ended_not_cut b.status.fate was)) ∙ was

    by_asks : AreAtMostHeard b works.heard c → AreAtMostHeard a works.heard f
    by_asks (inl empty) = inl empty
    by_asks (inr is) = inr (record {
      bytes = is.bytes;
      heard = is.heard;
      given = over.same.given ∙ last.given_same ∙ left.same.given ∙ is.given ∙ ap (λ (xs : List ℕ). xs ++ is.bytes) first.given_same;
      is = subst (λ (x : Conversation). IsHeard x is.bytes is.heard) first.session is.is;
      first = is.first;
    })

    by_leave : (f.status.has_left ≡ true) ⊎ (e.refused.leavings < f.refused.leavings) → (f.status.has_left ≡ true) ⊎ (a.refused.leavings < f.refused.leavings)
    by_leave (inl left) = inl left
    by_leave (inr more) =
        inr (omega (arith, first.served.later.leavings, works.served.later.leavings, left.served.later.leavings, last.served.later.leavings, more))

    rest : IsLater b f
    rest = later_then b c f works.served.later (later_then c d f left.served.later (later_then d e f last.served.later over.served.later))

    all : HasTakenAll a f
    all = (rest.taken.0, rest.taken.1 ∙ ap (λ (xs : List ℕ). xs ++ rest.taken.0) (first.all none))

  -- a connection is written to, and something is still pending on it
  pub kept_in_turn : {news : Bool} {from to : S} {ms patience : ℕ} {a b m c : Connection} → IsFlushed ms a b → (b.outgoing ≡ [] → ⊥) → IsPatient ms patience b m
      → Leaves steps from m to c → ServesInTurn steps ms patience news from a to c
  kept_in_turn {news} {from} {to} {ms} {patience} {a} {b} {m} {c} first some rests left = record {
    entries = left.entries;
    chain = left.chain;
    served = served_then a b c [] left.entries first.served (served_then b m c [] left.entries rests.served left.served);
    drawn = λ new none goes sits. absurd (some (first.none none));
    asked = λ goes none. absurd (some (first.none none));
    once = inl unread;
    given = λ goes outgoing. omega (arith, first.given goes outgoing, rests.served.later.writes, left.served.later.writes);
    waited = inr (unread, at_most);
    cut = λ cut. by_wait (rests.cut (sym left.fate ∙ cut));
    in_time =
        λ written. inr (subst (λ (n : ℕ). ms - n < patience) (sym still.moved) (rests.in_time (subst IsWritten left.fate written)));
    moved = kept_moved steps first some rests left;
    unmoved = λ same busy unfinished. (kept_same steps first some rests left same).moved;
    taking = kept_notes steps first some rests left;
    closed = λ closed.
        let at_b = rests.closed (sym left.fate ∙ closed) in
        WasClosed (sym (first.fate (λ cut. closed_not_cut (sym at_b ∙ cut))) ∙ at_b);
    let_go = λ before after nothing. absurd (some (sym rests.outgoing ∙ sym left.same.outgoing ∙ nothing));
    finished = λ now_finished. absurd (kept_unfinished steps first some rests left now_finished);
    left = λ ended. by_leave (left.left ended);
    one = record { heard = []; drawn = []; left = left.entries; all = refl; asks = inl refl; draws = inl refl; leaves = at_most };
    asked_for = λ none goes long empty. absurd (some (first.none none));
    asking = record {
      some = λ goes more. absurd (more (left.alone (sym left.fate ∙ goes)));
      none = λ goes empty. ap (λ (s : ConnStatus). s.asked_ms) left.noted ∙ ap (λ (s : ConnStatus). s.asked_ms) rests.noted ∙ noted_asked first.noted;
    };
  } where
    still : IsUnwritten b c
    still = unwritten_behind steps first some rests left

    at_most : IsAtMostLeaving a.id left.entries
    at_most = subst (λ (id : ℕ). IsAtMostLeaving id left.entries) (rests.served.same ∙ first.served.same) left.leaving

    unread : LineIsUnread a c
    unread = unread_then a b c first.unread (unread_then b m c rests.unread (unread_same left.calls))

    by_leave : (c.status.has_left ≡ true) ⊎ (m.refused.leavings < c.refused.leavings) → (c.status.has_left ≡ true) ⊎ (a.refused.leavings < c.refused.leavings)
    by_leave (inl left) = inl left
    by_leave (inr more) = inr (omega (arith, first.served.later.leavings, rests.served.later.leavings, more))

    by_first : (a.status.fate ≡ Cut) ⊎ (a.calls.faults < b.calls.faults) → WhyCut ms patience a c
    by_first (inl was) = WasCut was
    by_first (inr more) = HasFailed (omega (arith, more, rests.served.later.faults, left.served.later.faults))

    by_wait : (b.status.fate ≡ Cut) ⊎ HasStalled ms patience b → WhyCut ms patience a c
    by_wait (inl was) = by_first (first.cut was)
    by_wait (inr stalled) =
        TookNothing (λ nothing. some (sym rests.outgoing ∙ sym left.same.outgoing ∙ nothing)) (subst (λ (n : ℕ). patience ≤ ms - n) (sym still.moved) stalled)
