use Rattle.std.proofs.Common.{◌≡◌, List, [], ◌∷◌, ◌++◌, refl, sym, subst, ◌∙◌, ap, append_assoc, append-nil, arith}
use Rattle.std.proofs.lemmas.List.{nil_from_length}
use Rattle.std.specs.Vec.Iter.{into_iter_items}
use Rattle.radio_events.specs.declared.event.Event.{Event}
use Rattle.radio_events.specs.declared.entry.Entry.{Entry}
use Rattle.radio_connections.specs.declared.conn.Fate.{Fate}
use Rattle.radio_connections.specs.declared.conn.Fate.TheVariants.{Open}
use Rattle.radio_connections.specs.Connections.{Connection, is_open}
use Rattle.radio_connections.specs.Course.{Arrival}
use Rattle.radio_connections.specs.Serving.{StandsBefore}
use Rattle.radio_connections.specs.Answering.{IsAnswered, later_by}
use Rattle.radio_connections.proofs.Calling.{later_none, later_then}
use Rattle.radio_connections.specs.Duties.{AreFirstOf, events_of}
use Rattle.radio_connections.proofs.Askings.{unwritten_none, unwritten_then, first_then, first_of_one, made_on}
use Rattle.radio_connections.proofs.Deeds.{open_from, not_over, later_by_over, spared_then, spared_open}
use Rattle.radio_connections.proofs.DeedChains.{chain_then}
use Rattle.radio_connections.proofs.serving.answering.answer_all.Goals as goal

-- one more event is applied
one_more : (start before now : Connection) (event : Event) (events rest all : List Event) (so_far made : List Entry) → events ≡ event ∷ rest
    → IsAnswered event before made now
    → ((arrival : Arrival) (past : List Entry) → StandsBefore arrival all start past → StandsBefore arrival events before (past ++ so_far))
    → (arrival : Arrival) (past : List Entry) → StandsBefore arrival all start past
    → StandsBefore arrival (later_by now.status.fate rest) now (past ++ (so_far ++ made))
one_more start before now event events rest all so_far made left a stands arrival past st =
    subst (λ (es : List Entry). StandsBefore arrival (later_by now.status.fate rest) now es) (append_assoc past so_far made)
    (a.stands arrival rest (past ++ so_far) (subst (λ (es : List Event). StandsBefore arrival es before (past ++ so_far)) left (stands arrival past st)))

pub loop-event-init : goal.loop-event-init
loop-event-init g c = record {
  entries = [];
  chain = refl;
  same = refl;
  goes = c.requires;
  later = later_none c.args.conn.now;
  calls = refl;
  given = refl;
  unwritten = unwritten_none c.args.conn.now;
  asked = refl;
  made = sym c.into_iter-event-iterator.ensures.into_iter_gives.0;
  stands = λ arrival past st.
      subst (λ (es : List Entry). StandsBefore arrival (into_iter_items c.into_iter-event-iterator.result) c.args.conn.now es) (sym (append-nil past))
      (subst (λ (es : List Event). StandsBefore arrival es c.args.conn.now past) (sym c.into_iter-event-iterator.ensures.into_iter_gives.0) st);
}

pub returns-then-not-is_open : goal.returns-then-not-is_open
returns-then-not-is_open g c =
    let inv = c.loop-event.invariant in
    let a = c.answer.ensures in
    let over : is_open c.answer.new.conn.status.fate ≡ _ = ap (λ (o : Connection). is_open o.status.fate) (sym c.conn-in-loop-event.view_is) ∙ sym c.is_open.ensures
    ∙ c.if-not-is_open.true in (
      inv.entries ++ a.0,
      chain_then g.S.Server.steps _ _ _ inv.entries a.0 inv.chain a.1,
      record {
        same = a.2.same ∙ inv.same;
        first = first_then inv.entries a.0 _ _ inv.made
            (subst (λ (es : List Event). AreFirstOf a.0 es) (sym c.in-Some.ensures.steps.0) (first_of_one c.in-Some.event _ a.0 a.2.once));
        all = λ goes. absurd (not_over c.answer.new.conn.status.fate over goes);
        stands = λ arrival past st.
            subst (λ (es : List Event). StandsBefore arrival es c.answer.new.conn (past ++ (inv.entries ++ a.0)))
            (later_by_over c.answer.new.conn.status.fate (into_iter_items c.next.new.self) over)
            (one_more _ _ _ c.in-Some.event (into_iter_items c.loop-event.event-iterator)
            (into_iter_items c.next.new.self) _ inv.entries a.0 c.in-Some.ensures.steps.0 a.2 inv.stands arrival past st);
        later = later_then _ _ _ inv.later a.2.later;
        spared = spared_then _ _ _ inv.later inv.calls inv.given inv.unwritten a.2.spared;
        asked = a.2.asked ∙ inv.asked;
      },
    )

pub loop-event-preserved : goal.loop-event-preserved
loop-event-preserved g c =
    let inv = c.loop-event.invariant in
    let a = c.answer.ensures in
    let goes : c.answer.new.conn.status.fate ≡ Open =
    open_from c.answer.new.conn.status.fate (ap (λ (o : Connection). is_open o.status.fate) (sym c.conn-in-loop-event.view_is) ∙ sym c.is_open.ensures
    ∙ c.if-not-is_open.false) in record {
      entries = inv.entries ++ a.0;
      chain = chain_then g.S.Server.steps _ _ _ inv.entries a.0 inv.chain a.1;
      same = a.2.same ∙ inv.same;
      goes = goes;
      later = later_then _ _ _ inv.later a.2.later;
      calls = a.2.spared.calls ∙ inv.calls;
      given = a.2.spared.given ∙ inv.given;
      unwritten = unwritten_then inv.unwritten a.2.spared.unwritten;
      asked = a.2.asked ∙ inv.asked;
      made = inv.made
          ∙ ap (λ (es : List Event). events_of inv.entries ++ es) c.in-Some.ensures.steps.0
          ∙ made_on inv.entries a.0 c.in-Some.event (into_iter_items c.next.new.self) (a.2.made goes);
      stands = λ arrival past st.
          subst (λ (f : Fate). StandsBefore arrival (later_by f (into_iter_items c.next.new.self)) c.answer.new.conn (past ++ (inv.entries ++ a.0))) goes
          (one_more _ _ _ c.in-Some.event (into_iter_items c.loop-event.event-iterator)
          (into_iter_items c.next.new.self) _ inv.entries a.0 c.in-Some.ensures.steps.0 a.2 inv.stands arrival past st);
    }

pub returns : goal.returns
returns g c =
    let inv = c.loop-event.invariant in
    let none : into_iter_items c.loop-event.event-iterator ≡ [] =
    nil_from_length (into_iter_items c.loop-event.event-iterator) (omega (arith, c.loop-event.event-iterator.rest.ok.0, c.in-None.ensures.steps.0)) in (
      inv.entries,
      inv.chain,
      record {
        same = inv.same;
        first = (into_iter_items c.loop-event.event-iterator, inv.made);
        all = λ goes. inv.made ∙ ap (λ (es : List Event). events_of inv.entries ++ es) none ∙ append-nil (events_of inv.entries);
        stands =
            λ arrival past st. subst (λ (es : List Event). StandsBefore arrival es c.loop-event.conn (past ++ inv.entries)) none (inv.stands arrival past st);
        later = inv.later;
        spared = spared_open _ _ inv.calls inv.given inv.unwritten inv.goes;
        asked = inv.asked;
      },
    )
