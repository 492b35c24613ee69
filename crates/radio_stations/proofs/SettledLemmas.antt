-- From settled passes to the connections of all workers.
use Rattle.std.proofs.Common.{◌≡◌, List, [], ◌∷◌, ◌++◌, map, refl, sym, ap, subst, ◌∙◌}
use Rattle.radio_stations.proofs.Words.{WebAnswers, Entry, World, opening, ReceiptOf, IsRun, AreWoven, IsInterleaved, SettledHistoriesAreWoven, entries_of, nothing_left, takes_one, takes_other, HaveOwnLabels}
use Rattle.radio_stations.proofs.Words.{SettledStationsHearSlices, WorkAtHall, all_made, joint_roll, passes_of, StationsAddUp, StationsHearSlices, IsOfConnections, Made, PassesAreOfTheirWork, made_entries, nobody_came}

-- entries that are woven of those of lists, as a list that is woven of these
record IsWovenOf (one other : List Made) (history : List Entry) : Type 0 where
  pub made : List Made
  pub woven : IsInterleaved one other made
  pub same : made_entries made ≡ history

same_first : (x y : Entry) (xs ys : List Entry) → x ∷ xs ≡ y ∷ ys → x ≡ y
same_first x y xs ys e = cc

same_others : (x y : Entry) (xs ys : List Entry) → x ∷ xs ≡ y ∷ ys → xs ≡ ys
same_others x y xs ys e = cc

pub both_then : {A : Type 0} (x y : A) (xs ys : List A) → x ≡ y → xs ≡ ys → x ∷ xs ≡ y ∷ ys
both_then {A} x y xs ys first others = ap (λ (z : A). z ∷ xs) first ∙ ap (λ (zs : List A). y ∷ zs) others

lifted : (es fs history : List Entry) → IsInterleaved es fs history → (one other : List Made) → made_entries one ≡ es → made_entries other ≡ fs → IsWovenOf one other history
lifted es fs history nothing_left [] [] first second = record { made = []; woven = nothing_left; same = refl }
lifted es fs history nothing_left (m ∷ one) other first second = absurd (cc)
lifted es fs history nothing_left [] (m ∷ other) first second = absurd (cc)
lifted es fs history (takes_one before behind all item w) [] other first second = absurd (cc)
lifted es fs history (takes_one before behind all item w) (m ∷ one) other first second =
    let rest = lifted before behind all w one other (same_others m.done item (made_entries one) before first) second in
    record {
      made = m ∷ rest.made;
      woven = takes_one one other rest.made m rest.woven;
      same = both_then m.done item (made_entries rest.made) all (same_first m.done item (made_entries one) before first) rest.same;
    }
lifted es fs history (takes_other before behind all item w) one [] first second = absurd (cc)
lifted es fs history (takes_other before behind all item w) one (m ∷ other) first second =
    let rest = lifted before behind all w one other first (same_others m.done item (made_entries other) behind second) in
    record {
      made = m ∷ rest.made;
      woven = takes_other one other rest.made m rest.woven;
      same = both_then m.done item (made_entries rest.made) all (same_first m.done item (made_entries other) behind second) rest.same;
    }

module _ {start : World} {web : WebAnswers} (passes : PassesAreOfTheirWork) where
  -- a worker's pass has the receipts of what it made
  made_of : (worker : WorkAtHall start web) → made_entries worker.made ≡ entries_of worker.last.server
  made_of worker =
      let gained = passes start web worker.first worker.last worker.made worker.roll worker.worked in
      sym (ap entries_of (gained.1 ∙ ap (λ (rs : List ReceiptOf). rs ++ gained.0) worker.empty) ∙ gained.2)

  -- what the workers made, woven as their entries are
  record AllMade (workers : List (WorkAtHall start web)) (history : List Entry) : Type 0 where
    pub made : List Made
    pub same : made_entries made ≡ history
    pub woven : AreWoven (all_made workers) made

  all_lifted : (workers : List (WorkAtHall start web)) (history : List Entry) → AreWoven (map entries_of (passes_of workers)) history → AllMade workers history
  all_lifted [] history none = record { made = []; same = sym none; woven = refl }
  all_lifted (worker ∷ workers) history (rest, woven, others) =
      let more = all_lifted workers rest others in
      let both = lifted (entries_of worker.last.server) rest history woven worker.made more.made (made_of worker) more.same in
      record { made = both.made; same = both.same; woven = (more.made, both.woven, more.woven) }

module _ {start : World} {web : WebAnswers} (add : StationsAddUp)
    (work : (worker : WorkAtHall start web) → IsOfConnections web worker.made worker.roll) where
  nothing_made : IsOfConnections web [] nobody_came
  nothing_made = record { labels = λ label. refl; moments = tt }

  of_workers : (workers : List (WorkAtHall start web)) → HaveOwnLabels workers → (made : List Made) → AreWoven (all_made workers) made
      → IsOfConnections web made (joint_roll workers)
  of_workers [] own made none = subst (λ (ms : List Made). IsOfConnections web ms nobody_came) (sym none) nothing_made
  of_workers (worker ∷ workers) own made (rest, woven, others) =
      add web worker.made rest made worker.roll (joint_roll workers) (work worker) (of_workers workers own.1 rest others) own.0 woven

pub settled_hear_slices : PassesAreOfTheirWork → SettledHistoriesAreWoven → StationsAddUp → StationsHearSlices
    → ((start : World) (web : WebAnswers) (worker : WorkAtHall start web) → IsOfConnections web worker.made worker.roll) → SettledStationsHearSlices
settled_hear_slices passes settle add slices work start web settings lists workers control mounts history own run settled total =
    let all = all_lifted passes workers history (settle control mounts (passes_of workers) history settled total) in
    let of = of_workers add (work start web) workers own all.made all.woven in
    record {
      made = all.made;
      same = all.same;
      woven = all.woven;
      of_connections = of;
      hears = slices web settings lists all.made (joint_roll workers)
          (subst (λ (es : List Entry). IsRun (opening settings lists) es) (sym all.same) run) of;
    }
