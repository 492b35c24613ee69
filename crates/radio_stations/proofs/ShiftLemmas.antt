-- What a worker has done at its slot, as work over its connections, under labels of a range of its own.
use Rattle.std.proofs.Common.{◌≡◌, ◌<◌, ◌≤◌, ◌+◌, ℕ, suc, Bool, true, false, inl, inr, List, [], ◌∷◌, ◌++◌, refl, sym, ap, subst, ◌∙◌, arith, append_assoc}
use Rattle.radio_stations.proofs.Words.{drop, filter, length, nat_lt, remove, slice_get, take, if◌then◌else◌, map-append, WebAnswers, Event, Arrive, Leave, entry, Steps, Connection, lingers, without_first, Turn, IsTurn}
use Rattle.radio_stations.proofs.Words.{TicksUnless, is_time_known, WatchedOf, WatchedSteps, WorkerOf, HasOnlyAsked, HasWorkedAtSlot, MayRefuse, ShiftOf, WorkerHasDone, shift_of, HasWorked, Made, Roll, UnderLabel}
use Rattle.radio_stations.proofs.Words.{closed, enrolled, gone, here, let_go, made_on, nobody_came, nothing_yet, took_in, turned_off, unknown, AreHeld, Held, IsOther, connections, held_at}
use Rattle.radio_serving.specs.Admission.{IsAdmission, IsTurnedOff}
use Rattle.radio_workers.specs.Leaving.{LeavesAll, LeavesUnless}
use Rattle.radio_workers.specs.Shifts.{HasParted, without_oldest}
use Rattle.radio_workers.specs.Working.{admitted as was_admitted, closed as was_closed, nothing_yet as did_nothing, parted as was_parted, served as was_served, turned_off as was_turned_off}
use Rattle.radio_stations.proofs.HeldLemmas.{AreLeft, AreOthers, apart_of, held_at_place, held_in, held_removed, held_then, conns_removed, left_as_before, left_by_first, other_if_unknown, other_removed, others_of, others_then, still_held, turned}
use Rattle.radio_stations.proofs.RoundLemmas.{as_before, serves_turn}
use Rattle.radio_stations.proofs.WorkLemmas.{enrolled_elsewhere, enrolled_here}

removed_as : (cs : List Connection) (at : ℕ) → remove cs at ≡ take at cs ++ drop (at + 1) cs
removed_as cs at = let e : suc at ≡ at + 1 = omega arith in ap (λ (n : ℕ). take at cs ++ drop n cs) e

-- every label that the roll knows is one from the first on, before the next
pub record HasLabelsIn (from next : ℕ) (roll : Roll) : Type 0 where
  pub in_order : from ≤ next
  pub below : (label : ℕ) → label < from → roll label ≡ unknown
  pub above : (label : ℕ) → next ≤ label → roll label ≡ unknown

-- no label was given
pub no_labels : (from : ℕ) → HasLabelsIn from from nobody_came
no_labels from = record { in_order = omega arith; below = λ label low. refl; above = λ label high. refl }

not_itself : (next label : ℕ) → (label < next) → label ≡ next → ⊥
not_itself next label low same = omega (arith, low, same)

not_past : (next label : ℕ) → suc next ≤ label → label ≡ next → ⊥
not_past next label high same = omega (arith, high, same)

-- the next label was given
pub labels_then : (from next : ℕ) (place : UnderLabel) (roll : Roll) → HasLabelsIn from next roll → HasLabelsIn from (suc next) (enrolled next place roll)
labels_then from next place roll h = record {
  in_order = let order = h.in_order in omega (arith, order);
  below = λ label low.
      let order = h.in_order in
      let under : label < next = omega (arith, order, low) in
      enrolled_elsewhere next label place roll (apart_of next label (not_itself next label under)) ∙ h.below label low;
  above = λ label high.
      let past : next ≤ label = omega (arith, high) in
      enrolled_elsewhere next label place roll (apart_of next label (not_past next label high)) ∙ h.above label past;
}

-- no other label has changed than those of these
labels_in : (held : List Held) (from next : ℕ) (roll after : Roll) → AreHeld held roll → ((label : ℕ) → IsOther label held → after label ≡ roll label)
    → HasLabelsIn from next roll → HasLabelsIn from next after
labels_in held from next roll after are so h = record {
  in_order = h.in_order;
  below = λ label low. so label (other_if_unknown held label roll are (h.below label low)) ∙ h.below label low;
  above = λ label high. so label (other_if_unknown held label roll are (h.above label high)) ∙ h.above label high;
}

module _ {S : Type 0} (steps : Steps S) (refuses : S → Event → Type 0) (web : WebAnswers) (from : ℕ) (start : WatchedOf S) where
  abbrev Worked : List Made → WatchedOf S → Roll → Type 0
  Worked made to roll = HasWorked (WatchedSteps steps) web start made to roll

  -- what the worker of a shift made, and the labels of the connections that it serves
  record ShiftMade (shift : ShiftOf S) : Type 0 where
    pub made : List Made
    pub roll : Roll
    pub worked : Worked made shift.worker.server roll
    pub answers : shift.worker.web ≡ web
    pub sources : List Held
    pub others : List Held
    pub are_sources : AreHeld sources roll
    pub are_others : AreHeld others roll
    pub apart : AreOthers sources others
    pub same_sources : connections sources ≡ shift.sources
    pub same_others : connections others ≡ shift.conns
    pub next : ℕ
    pub labels : HasLabelsIn from next roll

  begun : (worker : WorkerOf (WatchedOf S)) → worker.server ≡ start → worker.web ≡ web → ShiftMade (shift_of worker [] [])
  begun worker same answers = record {
    made = [];
    roll = nobody_came;
    worked = subst (λ (s : WatchedOf S). Worked [] s nobody_came) (sym same) nothing_yet;
    answers = answers;
    sources = [];
    others = [];
    are_sources = tt;
    are_others = tt;
    apart = tt;
    same_sources = refl;
    same_others = refl;
    next = from;
    labels = no_labels from;
  }

  took : (worker after : WorkerOf (WatchedOf S)) (sources conns conns' : List Connection) (peer : _) → ShiftMade (shift_of worker sources conns)
      → HasOnlyAsked worker after → IsAdmission (WatchedSteps steps) web peer [] [] worker.server conns after.server conns'
      → ShiftMade (shift_of after sources conns')
  took worker after sources conns conns' peer p asked is =
      let new = p.labels.above p.next (omega arith) in
      let place = here is.newcomer in
      let last = held_at p.next is.newcomer in
      let roll = enrolled p.next place p.roll in
      let no_source = other_if_unknown p.sources p.next p.roll p.are_sources new in
      let no_other = other_if_unknown p.others p.next p.roll p.are_others new in
      record {
        made = p.made ++ made_on p.next (entry (Arrive peer) is.reply) ∷ [];
        roll = roll;
        worked = took_in p.made worker.server after.server p.roll p.worked p.next new peer is.reply is.newcomer is.step is.taken_in;
        answers = asked.web ∙ p.answers;
        sources = p.sources;
        others = p.others ++ last ∷ [];
        are_sources = still_held p.sources p.next place p.roll p.are_sources no_source;
        are_others = held_then p.others last roll (still_held p.others p.next place p.roll p.are_others no_other) no_other (enrolled_here p.next place p.roll);
        apart = turned p.sources (p.others ++ last ∷ []) (others_then p.others last p.sources (turned p.others p.sources p.apart) no_source);
        same_sources = p.same_sources;
        same_others =
            map-append (λ (one : Held). one.connection) p.others (last ∷ []) ∙ ap (λ (cs : List Connection). cs ++ is.newcomer ∷ []) p.same_others
            ∙ sym is.added;
        next = suc p.next;
        labels = labels_then from p.next place p.roll p.labels;
      }

  turned_away : (worker after : WorkerOf (WatchedOf S)) (sources conns : List Connection) (peer : _) → ShiftMade (shift_of worker sources conns)
      → HasOnlyAsked worker after → IsTurnedOff (WatchedSteps steps) peer worker.server after.server → ShiftMade (shift_of after sources conns)
  turned_away worker after sources conns peer p asked (inl same) = record {
    made = p.made;
    roll = p.roll;
    worked = subst (λ (s : WatchedOf S). Worked p.made s p.roll) (sym same) p.worked;
    answers = asked.web ∙ p.answers;
    sources = p.sources;
    others = p.others;
    are_sources = p.are_sources;
    are_others = p.are_others;
    apart = p.apart;
    same_sources = p.same_sources;
    same_others = p.same_others;
    next = p.next;
    labels = p.labels;
  }
  turned_away worker after sources conns peer p asked (inr (reply, step, nobody)) =
      let new = p.labels.above p.next (omega arith) in
      record {
        made = p.made ++ made_on p.next (entry (Arrive peer) reply) ∷ [];
        roll = enrolled p.next closed p.roll;
        worked = turned_off p.made worker.server after.server p.roll p.worked p.next new peer reply step nobody;
        answers = asked.web ∙ p.answers;
        sources = p.sources;
        others = p.others;
        are_sources = still_held p.sources p.next closed p.roll p.are_sources (other_if_unknown p.sources p.next p.roll p.are_sources new);
        are_others = still_held p.others p.next closed p.roll p.are_others (other_if_unknown p.others p.next p.roll p.are_others new);
        apart = p.apart;
        same_sources = p.same_sources;
        same_others = p.same_others;
        next = suc p.next;
        labels = labels_then from p.next closed p.roll p.labels;
      }

  -- a turn keeps the settings of answers
  ticks_keep : (known : Bool) (ms : ℕ) (w mid : WorkerOf (WatchedOf S)) → TicksUnless (WatchedSteps steps) known (MayRefuse steps refuses) ms w mid → mid.web ≡ w.web
  ticks_keep true ms w mid same = ap (λ (x : WorkerOf (WatchedOf S)). x.web) same
  ticks_keep false ms w mid (inl (at, patience, web, applied)) = web
  ticks_keep false ms w mid (inr refused) = ap (λ (x : WorkerOf (WatchedOf S)). x.web) refused.0

  turn_keeps : (at : Turn) (w after : WorkerOf (WatchedOf S)) (conns conns' : List Connection)
      → IsTurn (WatchedSteps steps) (MayRefuse steps refuses) at w conns after conns' → after.web ≡ w.web
  turn_keeps at w after conns conns' turn = turn.same.2 ∙ ticks_keep (is_time_known at.ms at.clock_ms w.clock_ms) at.ms w turn.mid turn.ticks

  made_turn : (at later : Turn) (worker between after : WorkerOf (WatchedOf S)) (sources conns sources' conns' : List Connection)
      → ShiftMade (shift_of worker sources conns) → IsTurn (WatchedSteps steps) (MayRefuse steps refuses) at worker sources between sources'
      → IsTurn (WatchedSteps steps) (MayRefuse steps refuses) later between conns after conns' → ShiftMade (shift_of after sources' conns')
  made_turn at later worker between after sources conns sources' conns' p first second =
      let refused = MayRefuse steps refuses in
      let one = serves_turn (WatchedSteps steps) web refused start worker between p.made p.roll p.sources at sources' p.worked p.are_sources
      (subst (λ (cs : List Connection). IsTurn (WatchedSteps steps) refused at worker cs between sources') (sym p.same_sources) first) in
      let mid_others = held_in p.others p.sources p.roll one.after one.others (turned p.others p.sources p.apart) p.are_others in
      let apart = others_of p.others p.sources one.now one.apart (turned p.others p.sources p.apart) in
      let two = serves_turn (WatchedSteps steps) web refused start between after (p.made ++ one.more) one.after p.others later conns' one.worked mid_others
      (subst (λ (cs : List Connection). IsTurn (WatchedSteps steps) refused later between cs after conns') (sym p.same_others) second) in
      let turned_back = turned one.now p.others apart in
      record {
        made = (p.made ++ one.more) ++ two.more;
        roll = two.after;
        worked = two.worked;
        answers = turn_keeps later between after conns conns' second ∙ turn_keeps at worker between sources sources' first ∙ p.answers;
        sources = one.now;
        others = two.now;
        are_sources = held_in one.now p.others one.after two.after two.others turned_back one.are_held;
        are_others = two.are_held;
        apart = others_of one.now p.others two.now two.apart turned_back;
        same_sources = one.same;
        same_others = two.same;
        next = p.next;
        labels = labels_in p.others from p.next one.after two.after mid_others two.others
            (labels_in p.sources from p.next p.roll one.after p.are_sources one.others p.labels);
      }

  -- a connection went to those of sources
  moved : (worker : WorkerOf (WatchedOf S)) (sources conns sources' conns' : List Connection) → ShiftMade (shift_of worker sources conns)
      → HasParted true worker.server.feeding sources conns sources' conns' → ShiftMade (shift_of worker sources' conns')
  moved worker sources conns sources' conns' p (at, conn, first, is, added, rest) =
      let here_at = held_at_place p.others at conn p.roll p.are_others (ap (λ (cs : List Connection). slice_get cs at) p.same_others ∙ is) in
      let turned_back = turned p.others p.sources p.apart in
      let fewer = λ (label : ℕ) (other : IsOther label p.others). other_removed label p.others at other in
      record {
        made = p.made;
        roll = p.roll;
        worked = p.worked;
        answers = p.answers;
        sources = p.sources ++ here_at.one ∷ [];
        others = remove p.others at;
        are_sources = held_then p.sources here_at.one p.roll p.are_sources (here_at.elsewhere p.sources turned_back) here_at.there;
        are_others = held_removed p.others at p.roll p.are_others;
        apart = others_then p.sources here_at.one (remove p.others at) (others_of p.sources p.others (remove p.others at) fewer p.apart) here_at.other;
        same_sources =
            map-append (λ (one : Held). one.connection) p.sources (here_at.one ∷ []) ∙ ap (λ (cs : List Connection). cs ++ here_at.one.connection ∷ []) p.same_sources
            ∙ ap (λ (c : Connection). sources ++ c ∷ []) here_at.same ∙ sym added;
        same_others = conns_removed p.others at ∙ ap (λ (cs : List Connection). remove cs at) p.same_others ∙ removed_as conns at ∙ sym rest;
        next = p.next;
        labels = p.labels;
      }

  -- one that lingered was closed
  abbrev but_oldest : List Connection → List Connection → Bool → List Connection × List Connection
  but_oldest sources conns b = if b then (sources, without_first conns) else (without_first sources, conns)

  first_of : {one other : List Connection × List Connection} → one ≡ other → one.0 ≡ other.0
  first_of same = ap (λ (pair : List Connection × List Connection). pair.0) same

  second_of : {one other : List Connection × List Connection} → one ≡ other → one.1 ≡ other.1
  second_of same = ap (λ (pair : List Connection × List Connection). pair.1) same

  both_left : (worker : WorkerOf (WatchedOf S)) (sources conns sources' conns' xs ys : List Connection) (p : ShiftMade (shift_of worker sources conns))
      → AreLeft p.sources xs p.roll → AreLeft p.others ys p.roll → sources' ≡ xs → conns' ≡ ys → ShiftMade (shift_of worker sources' conns')
  both_left worker sources conns sources' conns' xs ys p one two first second =
      let fewer = others_of p.others p.sources one.now one.apart (turned p.others p.sources p.apart) in
      record {
        made = p.made;
        roll = p.roll;
        worked = p.worked;
        answers = p.answers;
        sources = one.now;
        others = two.now;
        are_sources = one.are_held;
        are_others = two.are_held;
        apart = others_of one.now p.others two.now two.apart (turned one.now p.others fewer);
        same_sources = one.same ∙ sym first;
        same_others = two.same ∙ sym second;
        next = p.next;
        labels = p.labels;
      }

  all_of : (held : List Held) (conns : List Connection) (roll : Roll) → connections held ≡ conns → AreHeld held roll → AreLeft held conns roll
  all_of held conns roll same h = subst (λ (cs : List Connection). AreLeft held cs roll) same (left_as_before held roll h)

  but_first : (held : List Held) (conns : List Connection) (roll : Roll) → connections held ≡ conns → AreHeld held roll → AreLeft held (without_first conns) roll
  but_first held conns roll same h = subst (λ (cs : List Connection). AreLeft held (without_first cs) roll) same (left_by_first held roll h)

  let_one_go : (worker : WorkerOf (WatchedOf S)) (sources conns sources' conns' : List Connection) → ShiftMade (shift_of worker sources conns)
      → (sources', conns') ≡ without_oldest sources conns → ShiftMade (shift_of worker sources' conns')
  let_one_go worker sources conns sources' conns' p is = by_test (nat_lt 0 (length (filter lingers conns))) is where
    by_test : (b : Bool) → (sources', conns') ≡ but_oldest sources conns b
        → ShiftMade (shift_of worker sources' conns')
    by_test true same =
        both_left worker sources conns sources' conns' sources (without_first conns) p (all_of p.sources sources p.roll p.same_sources p.are_sources)
        (but_first p.others conns p.roll p.same_others p.are_others) (first_of same) (second_of same)
    by_test false same =
        both_left worker sources conns sources' conns' (without_first sources) conns p (but_first p.sources sources p.roll p.same_sources p.are_sources)
        (all_of p.others conns p.roll p.same_others p.are_others) (first_of same) (second_of same)

  shift_made : (first shift : ShiftOf S) → ShiftMade first → WorkerHasDone steps refuses first shift → ShiftMade shift
  shift_made first shift p did_nothing = p
  shift_made first shift p (was_admitted worker after sources conns conns' was asked peer is) =
      let before = shift_made first (shift_of worker sources conns) p was in
      took worker after sources conns conns' peer before asked
      (subst (λ (w : WebAnswers). IsAdmission (WatchedSteps steps) w peer [] [] worker.server conns after.server conns') before.answers is)
  shift_made first shift p (was_turned_off worker after sources conns was asked peer is) =
      turned_away worker after sources conns peer (shift_made first (shift_of worker sources conns) p was) asked is
  shift_made first shift p (was_served worker between after sources conns sources' conns' was turn news one other) =
      made_turn turn (record turn { news = news }) worker between after sources conns sources' conns' (shift_made first (shift_of worker sources conns) p was) one other
  shift_made first shift p (was_parted worker sources conns sources' conns' was is) =
      moved worker sources conns sources' conns' (shift_made first (shift_of worker sources conns) p was) is
  shift_made first shift p (was_closed worker sources conns sources' conns' was is) =
      let_one_go worker sources conns sources' conns' (shift_made first (shift_of worker sources conns) p was) is

  -- the clients of these left, or memory was refused for that
  record HaveLeft (made : List Made) (to : WatchedOf S) (roll : Roll) (held : List Held) : Type 0 where
    pub more : List Made
    pub after : Roll
    pub worked : Worked (made ++ more) to after
    pub others : (label : ℕ) → IsOther label held → after label ≡ roll label

  one_leaves : (has_left : Bool) (one : Held) (made : List Made) (before to : WatchedOf S) (roll : Roll) → one.connection.status.has_left ≡ has_left
      → Worked made before roll → roll one.label ≡ here one.connection
      → LeavesUnless (WatchedSteps steps) (MayRefuse steps refuses) has_left before one.connection.id to → HaveLeft made to roll (one ∷ [])
  one_leaves true one made before to roll left was there same =
      record { more = []; after = roll; worked = as_before (WatchedSteps steps) web (MayRefuse steps refuses) start made before to roll was same; others = λ label h. refl }
  one_leaves false one made before to roll stayed was there (inl (reply, step)) = record {
    more = made_on one.label (entry (Leave one.connection.id) reply) ∷ [];
    after = enrolled one.label (gone one.connection) roll;
    worked = let_go made before to roll was one.label one.connection there stayed reply step;
    others = λ label h. enrolled_elsewhere one.label label (gone one.connection) roll (apart_of one.label label (λ e. h.0 (sym e)));
  }
  one_leaves false one made before to roll stayed was there (inr refused) =
      record { more = []; after = roll; worked = as_before (WatchedSteps steps) web (MayRefuse steps refuses) start made before to roll was refused.1; others = λ label h. refl }

  all_leave : (held : List Held) (made : List Made) (before to : WatchedOf S) (roll : Roll) → Worked made before roll → AreHeld held roll
      → LeavesAll (WatchedSteps steps) (MayRefuse steps refuses) before (connections held) to → HaveLeft made to roll held
  all_leave [] made before to roll was are same =
      record { more = []; after = roll; worked = as_before (WatchedSteps steps) web (MayRefuse steps refuses) start made before to roll was same; others = λ label h. refl }
  all_leave (one ∷ held) made before to roll was are (mid, leaving, others) =
      let first = one_leaves one.connection.status.has_left one made before mid roll refl was are.0 leaving in
      let are_held = held_in held (one ∷ []) roll first.after first.others (turned held (one ∷ []) (are.1, tt)) are.2 in
      let rest = all_leave held (made ++ first.more) mid to first.after first.worked are_held others in
      record {
        more = first.more ++ rest.more;
        after = rest.after;
        worked = subst (λ (ms : List Made). Worked ms to rest.after) (append_assoc made first.more rest.more) rest.worked;
        others = λ label h. rest.others label h.1 ∙ first.others label (h.0, tt);
      }

-- what the worker of a slot, or a relay's thread, made, with labels in a range
pub record SlotMade {S : Type 0} (steps : Steps S) (web : WebAnswers) (from : ℕ) (first last : S) : Type 0 where
  pub made : List Made
  pub roll : Roll
  pub start : WatchedOf S
  pub end : WatchedOf S
  pub worked : HasWorked (WatchedSteps steps) web start made end roll
  pub begins : start.server ≡ first
  pub ends : end.server ≡ last
  pub next : ℕ
  pub labels : HasLabelsIn from next roll

pub slot_made : {S : Type 0} (steps : Steps S) (refuses : S → Event → Type 0) (web : WebAnswers) (from : ℕ) (first last : S)
    → HasWorkedAtSlot steps refuses web first last → SlotMade steps web from first last
slot_made {S} steps refuses web from first last is =
    let start = is.worker.server in
    let p = shift_made steps refuses web from start (shift_of is.worker [] []) is.ends (begun steps refuses web from start is.worker refl is.answers) is.done in
    let server = is.ends.worker.server in
    let one = all_leave steps refuses web from start p.sources p.made server is.between p.roll p.worked p.are_sources
    (subst (λ (cs : List Connection). LeavesAll (WatchedSteps steps) (MayRefuse steps refuses) server cs is.between) (sym p.same_sources) is.sources_leave) in
    let are_others = held_in p.others p.sources p.roll one.after one.others (turned p.others p.sources p.apart) p.are_others in
    let two = all_leave steps refuses web from start p.others (p.made ++ one.more) is.between is.left one.after one.worked are_others
    (subst (λ (cs : List Connection). LeavesAll (WatchedSteps steps) (MayRefuse steps refuses) is.between cs is.left) (sym p.same_others) is.others_leave) in
    record {
      made = (p.made ++ one.more) ++ two.more;
      roll = two.after;
      start = start;
      end = is.left;
      worked = two.worked;
      begins = ap (λ (w : WatchedOf S). w.server) is.server;
      ends = sym is.comes_back;
      next = p.next;
      labels = labels_in p.others from p.next one.after two.after are_others two.others
          (labels_in p.sources from p.next p.roll one.after p.are_sources one.others p.labels);
    }
