-- A worker's admissions and turns, step by step.
use Rattle.std.proofs.Common.{◌≡◌, inl, inr, ℕ, Bool, true, false, List, [], ◌∷◌, ◌++◌, refl, sym, ap, subst, ◌∙◌, append_assoc}
use Rattle.radio_stations.proofs.Words.{map, filter, append-nil, map-append, WebAnswers, Event, Arrive, entry, Steps, Connection, stays, Turn, IsTurn, ServesEach, TicksUnless, is_time_known, WorkerOf, HasWorked, Made}
use Rattle.radio_stations.proofs.Words.{Roll, here, made_on, moment, enrolled, served, told, took_in, AdmissionsAreWork, AreHeld, Held, IsOther, TurnsAreWork, connections, held_at}
use Rattle.radio_stations.proofs.HeldLemmas.{apart_of, conns_stay, held_stay, held_then, other_stays, stay, still_held}
use Rattle.radio_stations.proofs.WorkLemmas.{enrolled_elsewhere, enrolled_here}

module _ {S : Type 0} (steps : Steps S) (web : WebAnswers) (refuses : S → Event → Type 0) (first : S) where
  -- nothing more was made
  pub as_before : (made : List Made) (from to : S) (roll : Roll) → HasWorked steps web first made from roll → to ≡ from → HasWorked steps web first (made ++ []) to roll
  as_before made from to roll was same =
      subst (λ (ms : List Made). HasWorked steps web first ms to roll) (sym (append-nil made)) (subst (λ (s : S). HasWorked steps web first made s roll) (sym same) was)

  record HasTold (made : List Made) (to : S) (roll : Roll) : Type 0 where
    pub more : List Made
    pub worked : HasWorked steps web first (made ++ more) to roll

  tells_unless : (known : Bool) (ms : ℕ) (w mid : WorkerOf S) (made : List Made) (roll : Roll) → HasWorked steps web first made w.server roll
      → TicksUnless steps known refuses ms w mid → HasTold made mid.server roll
  tells_unless true ms w mid made roll was same =
      record { more = []; worked = as_before made w.server mid.server roll was (ap (λ (x : WorkerOf S). x.server) same) }
  tells_unless false ms w mid made roll was (inl (at, patience, web, applied)) =
      record { more = moment ms applied.0 ∷ []; worked = told made w.server mid.server roll was ms applied.0 applied.1 }
  tells_unless false ms w mid made roll was (inr refused) =
      record { more = []; worked = as_before made w.server mid.server roll was (ap (λ (x : WorkerOf S). x.server) refused.0) }

  -- each was served, and the others are as before
  pub record HasServed (made : List Made) (to : S) (roll : Roll) (held : List Held) (conns : List Connection) : Type 0 where
    pub more : List Made
    pub after : Roll
    pub worked : HasWorked steps web first (made ++ more) to after
    pub now : List Held
    pub are_held : AreHeld now after
    pub same : connections now ≡ conns
    pub others : (label : ℕ) → IsOther label held → after label ≡ roll label
    pub apart : (label : ℕ) → IsOther label held → IsOther label now

  serves : (ms patience : ℕ) (news : Bool) (held : List Held) (made : List Made) (from to : S) (roll : Roll) (conns : List Connection)
      → HasWorked steps web first made from roll → AreHeld held roll → ServesEach steps ms patience news from (connections held) to conns
      → HasServed made to roll held conns
  serves ms patience news [] made from to roll conns was are each = record {
    more = [];
    after = roll;
    worked = as_before made from to roll was each.0;
    now = [];
    are_held = tt;
    same = sym each.1;
    others = λ label h. refl;
    apart = λ label h. tt;
  }
  serves ms patience news (one ∷ held) made from to roll conns was are each =
      let turn = each.3 in
      let here_now = made_on one.label in
      let then_roll = enrolled one.label (here each.1) roll in
      let rest = serves ms patience news held (made ++ map here_now turn.entries) each.0 to then_roll each.2
      (served made from each.0 roll was one.label one.connection each.1 are.0 ms patience news turn)
      (still_held held one.label (here each.1) roll are.2 are.1) each.4 in
      record {
        more = map here_now turn.entries ++ rest.more;
        after = rest.after;
        worked = subst (λ (ms : List Made). HasWorked steps web first ms to rest.after) (append_assoc made (map here_now turn.entries) rest.more) rest.worked;
        now = held_at one.label each.1 ∷ rest.now;
        are_held = (rest.others one.label are.1 ∙ enrolled_here one.label (here each.1) roll, rest.apart one.label are.1, rest.are_held);
        same = ap (λ (cs : List Connection). each.1 ∷ cs) rest.same ∙ sym each.5;
        others = λ label h. rest.others label h.1 ∙ enrolled_elsewhere one.label label (here each.1) roll (apart_of one.label label (λ e. h.0 (sym e)));
        apart = λ label h. (h.0, rest.apart label h.1);
      }

  -- a turn over some of those that it holds
  pub serves_turn : (w after : WorkerOf S) (made : List Made) (roll : Roll) (held : List Held) (at : Turn) (conns : List Connection)
      → HasWorked steps web first made w.server roll → AreHeld held roll → IsTurn steps refuses at w (connections held) after conns
      → HasServed made after.server roll held conns
  serves_turn w after made roll held at conns was are turn =
      let clock = tells_unless (is_time_known at.ms at.clock_ms w.clock_ms) at.ms w turn.mid made roll was turn.ticks in
      let done = serves at.ms turn.mid.patience_ms at.news held (made ++ clock.more) turn.mid.server after.server roll turn.served clock.worked are turn.serves in
      record {
        more = clock.more ++ done.more;
        after = done.after;
        worked = subst (λ (ms : List Made). HasWorked steps web first ms after.server done.after) (append_assoc made clock.more done.more) done.worked;
        now = stay done.now;
        are_held = held_stay done.now done.after done.are_held;
        same = conns_stay done.now ∙ ap (filter stays) done.same ∙ sym turn.closes;
        others = done.others;
        apart = λ label other. other_stays label done.now (done.apart label other);
      }

module _ {S : Type 0} (steps : Steps S) (web : WebAnswers) (refuses : S → Event → Type 0) where
  pub admissions_are_work : AdmissionsAreWork steps web refuses
  admissions_are_work first from to made roll held peer label conns was are other new admission =
      let place = here admission.newcomer in
      record {
        more = made_on label (entry (Arrive peer) admission.reply) ∷ [];
        roll = enrolled label place roll;
        worked = took_in made from to roll was label new peer admission.reply admission.newcomer admission.step admission.taken_in;
        held = held ++ held_at label admission.newcomer ∷ [];
        are_held =
            held_then held (held_at label admission.newcomer) (enrolled label place roll) (still_held held label place roll are other) other
            (enrolled_here label place roll);
        same = map-append (λ (one : Held). one.connection) held (held_at label admission.newcomer ∷ []) ∙ sym admission.added;
      }

  pub turns_are_work : TurnsAreWork steps web refuses
  turns_are_work first w after made roll held at conns was are turn =
      let done = serves_turn steps web refuses first w after made roll held at conns was are turn in
      record { more = done.more; roll = done.after; worked = done.worked; held = done.now; are_held = done.are_held; same = done.same }
