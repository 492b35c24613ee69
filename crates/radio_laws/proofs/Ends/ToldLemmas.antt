-- the law of clients whose reply says that they were finished
use Rattle.std.proofs.Common.{◌≡◌, ◌⊎◌, inl, inr, ℕ, List, [], ◌∷◌, ◌++◌, refl, ap}
use Rattle.radio_laws.proofs.Words.{Rule, Settings, Lists, Event, World, opening, standing_of, Finishes, world_after_all, run_after, IsSound, world_after, sound_after, sound_opening, finish_step, finished_told}
use Rattle.radio_parts_station.specs.declared.standing.Standing.TheVariants.{Finished as HasFinished}
use Rattle.radio_laws.specs.FinishesTold.{WasFinished, FinishedAreTold}

-- from any state on: a client that is finished in the end was finished at the start, or one of the events has finished it
record Put (w : World) (events : List Event) (id : ℕ) (rule : Rule) : Type 0 where
  before : List Event
  event : Event
  after : List Event
  in_order : events ≡ before ++ event ∷ after
  finishes : Finishes (world_after_all w before) event id rule

since : (w : World) → IsSound w → (events : List Event) (id : ℕ) (rule : Rule) → standing_of (world_after_all w events) id ≡ HasFinished rule
    → (standing_of w id ≡ HasFinished rule) ⊎ Put w events id rule
since w s [] id rule e = inl e
since w s (event ∷ events) id rule e = later (since (world_after w event) (sound_after w s event) events id rule e) where
  here : (standing_of w id ≡ HasFinished rule) ⊎ Finishes w event id rule → (standing_of w id ≡ HasFinished rule) ⊎ Put w (event ∷ events) id rule
  here (inl stood) = inl stood
  here (inr finishes) = inr (record { before = []; event = event; after = events; in_order = refl; finishes = finishes })

  later : (standing_of (world_after w event) id ≡ HasFinished rule) ⊎ Put (world_after w event) events id rule
      → (standing_of w id ≡ HasFinished rule) ⊎ Put w (event ∷ events) id rule
  later (inl stood) = here (finish_step w s event id rule stood)
  later (inr put) =
      inr (record {
        before = event ∷ put.before;
        event = put.event;
        after = put.after;
        in_order = ap (λ es. event ∷ es) put.in_order;
        finishes =
            put.finishes;
      })

pub was_finished : (settings : Settings) (lists : Lists) (events : List Event) (id : ℕ) (rule : Rule)
    → standing_of (run_after settings lists events) id ≡ HasFinished rule
    → WasFinished settings lists events id rule
was_finished settings lists events id rule e = either (since (opening settings lists) (sound_opening settings lists) events id rule e) where
  either : (standing_of (opening settings lists) id ≡ HasFinished rule) ⊎ Put (opening settings lists) events id rule
      → WasFinished settings lists events id rule
  either (inl stood) = cc
  either (inr put) = record { before = put.before; event = put.event; after = put.after; in_order = put.in_order; finishes = put.finishes }

pub finished_hold : (settings : Settings) (lists : Lists) (events : List Event) (event : Event) → FinishedAreTold settings lists events event
finished_hold settings lists events event rule d =
    let told = finished_told (run_after settings lists events) event rule d in
    (told.0, told.1, was_finished settings lists events told.0 rule told.2)
