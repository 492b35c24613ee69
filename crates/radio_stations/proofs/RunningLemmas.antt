-- From the work at each slot, and that of each relay's thread, to workers with labels of their own.
use Rattle.std.proofs.Common.{◌≡◌, ◌<◌, ◌≤◌, ◌⊎◌, ℕ, suc, true, false, Bool, inl, inr, Option, None, Some, List, [], ◌∷◌, ◌++◌, refl, sym, ap, subst, ◌∙◌, arith}
use Rattle.radio_stations.proofs.Words.{All, IfSome, length, nat_lt, slice_index_or, sum_by, WebAnswers, World, ReceiptOf, IsCalled, MayBeRefused, IsWorkOf, HaveOwnLabels, SettledStationsHearSlices, WorkAtHall}
use Rattle.radio_stations.proofs.Words.{joint_roll, passes_of, AreDisjoint, either_has, Roll, UnderLabel, unknown}
use Rattle.std.proofs.lemmas.Bool.Decides.{nat_tests}
use Rattle.radio_hall.specs.Settling.{IsSettled}
use Rattle.radio_stations.specs.Running.{RelayAtHall, RunningStationsHearSlices, relay_passes, slot_passes}
use Rattle.radio_stations.proofs.RelayLemmas.{relay_made}
use Rattle.radio_stations.proofs.SettledLemmas.{both_then}
use Rattle.radio_stations.proofs.ShiftLemmas.{SlotMade, slot_made}

neither_has : (one other : UnderLabel) → one ≡ unknown → other ≡ unknown → either_has one other ≡ unknown
neither_has one other first second = ap (λ (place : UnderLabel). either_has place other) first ∙ second

-- labels below a number, and from it on
apart_at : (next : ℕ) (one other : Roll) → ((label : ℕ) → next ≤ label → one label ≡ unknown) → ((label : ℕ) → label < next → other label ≡ unknown) → AreDisjoint one other
apart_at next one other above below label = by_test (nat_lt label next) refl where
  by_test : (b : Bool) → nat_lt label next ≡ b → (one label ≡ unknown) ⊎ (other label ≡ unknown)
  by_test true e = let low : label < next = grind (arith, nat_tests, e) in inr (below label low)
  by_test false e = let high : next ≤ label = grind (arith, nat_tests, e) in inl (above label high)

module _ (start : World) (web : WebAnswers) where
  -- workers of these passes, with labels from a number on
  record WorkersFrom (from : ℕ) (all : List (List ReceiptOf)) : Type 0 where
    pub workers : List (WorkAtHall start web)
    pub passes : passes_of workers ≡ all
    pub own : HaveOwnLabels workers
    pub below : (label : ℕ) → label < from → joint_roll workers label ≡ unknown

  one_more : (from : ℕ) (all : List (List ReceiptOf)) (first last : List ReceiptOf) → first ≡ []
      → (made : SlotMade (IsCalled true start) web from first last) → WorkersFrom made.next all → WorkersFrom from (last ∷ all)
  one_more from all first last none made rest =
      let worker : WorkAtHall start web = record {
        made = made.made;
        roll = made.roll;
        first = made.start;
        last = made.end;
        worked = made.worked;
        empty = made.begins ∙ none;
      } in
      record {
        workers = worker ∷ rest.workers;
        passes = both_then made.end.server last (passes_of rest.workers) all made.ends rest.passes;
        own = (apart_at made.next made.roll (joint_roll rest.workers) made.labels.above rest.below, rest.own);
        below = λ label low.
            let order = made.labels.in_order in
            let under : label < made.next = omega (arith, order, low) in
            neither_has (made.roll label) (joint_roll rest.workers label) (made.labels.below label low) (rest.below label under);
      }

  relays_from : (from : ℕ) (relays : List (RelayAtHall start)) → WorkersFrom from (relay_passes relays)
  relays_from from [] = record { workers = []; passes = refl; own = tt; below = λ label low. refl }
  relays_from from (thread ∷ relays) =
      let made = relay_made (IsCalled true start) (MayBeRefused true) web from thread.relay [] thread.pass thread.done in
      one_more from (relay_passes relays) [] thread.pass refl made (relays_from made.next relays)

  module _ (Slot : Type 0) (pass_of : Slot → Option (List ReceiptOf)) (relays : List (RelayAtHall start)) where
    abbrev all_passes : List Slot → List (List ReceiptOf)
    all_passes slots = slot_passes Slot pass_of slots ++ relay_passes relays

    abbrev Work : List Slot → List Slot → Type 0
    Work before after = (i : ℕ) (d : Slot) → i < length before
        → IsWorkOf (IsCalled true start) (MayBeRefused true) web (pass_of (slice_index_or before i d)) (pass_of (slice_index_or after i d))

    abbrev NoReceipts : List Slot → Type 0
    NoReceipts slots = All (λ slot. IfSome (pass_of slot) (λ receipts. receipts ≡ [])) slots

    no_slots : (xs : List Slot) (x : Slot) → length (x ∷ xs) ≡ 0 → ⊥
    no_slots xs x e = omega (arith, e)

    taken : (slot : Slot) (slots : List Slot) (last : List ReceiptOf) → pass_of slot ≡ Some last → last ∷ all_passes slots ≡ all_passes (slot ∷ slots)
    taken slot slots last is = rw is refl

    skipped : (slot : Slot) (slots : List Slot) → pass_of slot ≡ None → all_passes slots ≡ all_passes (slot ∷ slots)
    skipped slot slots none = rw none refl

    slot_then : (from : ℕ) (slot : Slot) (slots : List Slot) (was is : Option (List ReceiptOf)) → pass_of slot ≡ is → IfSome was (λ receipts. receipts ≡ [])
        → IsWorkOf (IsCalled true start) (MayBeRefused true) web was is → ((next : ℕ) → WorkersFrom next (all_passes slots))
        → WorkersFrom from (all_passes (slot ∷ slots))
    slot_then from slot slots None is there empty same rest =
        subst (λ (all : List (List ReceiptOf)). WorkersFrom from all) (skipped slot slots (there ∙ same)) (rest from)
    slot_then from slot slots (Some first) None there empty worked rest = absurd worked
    slot_then from slot slots (Some first) (Some last) there empty worked rest =
        let made = slot_made (IsCalled true start) (MayBeRefused true) web from first last worked in
        subst (λ (all : List (List ReceiptOf)). WorkersFrom from all) (taken slot slots last there)
        (one_more from (all_passes slots) first last empty made (rest made.next))

    workers_from : (from : ℕ) (before after : List Slot) → length after ≡ length before → NoReceipts before → Work before after
        → WorkersFrom from (all_passes after)
    workers_from from [] [] count none work = relays_from from relays
    workers_from from [] (slot ∷ after) count none work = absurd (no_slots after slot count)
    workers_from from (old ∷ before) [] count none work = absurd (no_slots before old (sym count))
    workers_from from (old ∷ before) (slot ∷ after) count none work =
        slot_then from slot after (pass_of old) (pass_of slot) refl (none 0 old (omega arith)) (work 0 old (omega arith))
        (λ next. workers_from next before after (omega (arith, count)) (λ i d low. none (suc i) d (omega (arith, low))) (λ i d low. work (suc i) d (omega (arith, low))))

pub running_hear_slices : SettledStationsHearSlices → (Slot : Type 0) → RunningStationsHearSlices Slot
running_hear_slices settle Slot pass_of start web before after relays are =
    let from = workers_from start web Slot pass_of relays 0 before after are.count are.no_receipts are.work in (
      record { workers = from.workers; passes = from.passes; own = from.own },
      λ settings lists control mounts history run settled total.
          settle start web settings lists from.workers control mounts history from.own run
          (subst (λ (passes : List (List ReceiptOf)). IsSettled control mounts passes history) (sym from.passes) settled)
          (total ∙ ap (sum_by length) (sym from.passes)),
    )
