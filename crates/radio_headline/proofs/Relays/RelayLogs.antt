-- The events that a relay asks for, as they are applied and noted.
use Rattle.std.proofs.Common.{◌≡◌, ℕ, zero, List, [], ◌∷◌, ◌++◌, Option, None, Some, refl, sym, ap, subst, ◌∙◌, append_assoc}
use Rattle.radio_headline.proofs.Words.{append-nil, Entry, Event, RelayDown, Reply, State, Running, Shut, world_after_all, Step, reply_to, world_after, World, PullItem, Up, Sound, GoesOn, Stops, AreOfEvent}
use Rattle.radio_headline.proofs.Words.{AreOfEventAnd, AreOfEventIf, AreOfItems, AreOfPulled, IsDownIfShut, IsGoingDown, Asks, AsksIf, BringsItems, ComesOf, Follows, GoesDownIfShut, Onwards, Pulling, NumberedState}
use Rattle.radio_headline.proofs.Words.{state_after_reply, event_of, running_pull, noting}
use Rattle.radio_relay.specs.declared.items.PullItem.TheVariants.{Title as Named}
use Rattle.radio_relay.specs.Pulled.{PullProgress as AnswerStanding}
use Rattle.radio_relay.specs.Course.{GoesDown}
use Rattle.radio_headline.specs.Course.{Noted}
use Rattle.radio_headline.proofs.Logs.{after_joined, entries, entries_joined}

abbrev pub at : World → List Event → Noted
at w events = record { world = w; events = events }

-- What is asked of a server is asked of one that notes its events too. The entries of these are so.
pub record Lifts (R : Noted → Noted → Type 0) (Are : List Entry → Type 0) (w : World) (old : List Event) (later : World) : Type 0 where
  pub events : List Event
  pub lifted : R (at w old) (at later (old ++ events))
  pub leads : later ≡ world_after_all w events
  pub are : Are (entries w events)

same_at : (w later : World) (old : List Event) → later ≡ w → at later (old ++ []) ≡ at w old
same_at w later old e = ap (λ (x : World). at x (old ++ [])) e ∙ ap (λ (xs : List Event). at w xs) (append-nil old)

-- a relay goes down
pub down_lifts : (number : Option ℕ) (w later : World) (old : List Event) → GoesDown Step number w later
    → Lifts (GoesDown noting number) (IsGoingDown number) w old later
down_lifts None w later old e = record { events = []; lifted = same_at w later old e; leads = e; are = refl }
down_lifts (Some id) w later old (reply, step) =
    record { events = RelayDown id ∷ []; lifted = (reply, (step, refl)); leads = step.1; are = (reply_to w (RelayDown id), refl) }

down_if_lifts : (state : State) (number : Option ℕ) (w later : World) (old : List Event) → GoesDownIfShut Step state number w later
    → Lifts (GoesDownIfShut noting state number) (IsDownIfShut state number) w old later
down_if_lifts Running number w later old e = record { events = []; lifted = same_at w later old e; leads = e; are = refl }
down_if_lifts (Shut ending) number w later old goes =
    let d = down_lifts number w later old goes in record { events = d.events; lifted = d.lifted; leads = d.leads; are = d.are }

-- an event is applied
asks_lifts : (number : Option ℕ) (event : Event) (w later : World) (old : List Event) (after : NumberedState) → Asks Step number event w after later
    → Lifts (λ from to. Asks noting number event from after to) (λ es. AreOfEvent number event es after) w old later
asks_lifts number event w later old after a =
    let d = down_if_lifts after.state after.number a.mid later (old ++ event ∷ []) a.goes in
    let mid : a.mid ≡ world_after w event = a.step.1 in
    record {
      events = event ∷ d.events;
      lifted = record {
        reply = a.reply;
        mid = at a.mid (old ++ event ∷ []);
        step = (a.step, refl);
        is_answered = a.is_answered;
        goes = subst (λ (xs : List Event). GoesDownIfShut noting after.state after.number (at a.mid (old ++ event ∷ [])) (at later xs))
            (append_assoc old (event ∷ []) d.events) d.lifted;
      };
      leads = d.leads ∙ ap (λ (x : World). world_after_all x d.events) mid;
      are = record {
        reply = reply_to w event;
        down = entries (world_after w event) d.events;
        in_order = refl;
        is_answered = a.is_answered ∙ ap (λ (r : Reply). state_after_reply number r) a.step.0;
        goes_down = subst (λ (x : World). IsDownIfShut after.state after.number (entries x d.events)) mid d.are;
      };
    }

pub asks_if_lifts : (number : Option ℕ) (event : Option Event) (w later : World) (old : List Event) (after : NumberedState) → AsksIf Step number event w after later
    → Lifts (λ from to. AsksIf noting number event from after to) (λ es. AreOfEventIf number event es after) w old later
asks_if_lifts number None w later old after (so, e) = record { events = []; lifted = (so, same_at w later old e); leads = e; are = (refl, so) }
asks_if_lifts number (Some event) w later old after a =
    let l = asks_lifts number event w later old after a in record { events = l.events; lifted = l.lifted; leads = l.leads; are = l.are }

-- an event is applied, and then what items ask for
module _ (mount : List ℕ) (items : List PullItem) (number : Option ℕ) (event : Event) (w later : World) (old : List Event) (after : NumberedState)
    (rest : (n : Option ℕ) (mid : World) (before : List Event) → BringsItems Step mount n items mid after later
    → Lifts (λ from to. BringsItems noting mount n items from after to) (λ es. AreOfItems mount n items es after) mid before later)
    (now : NumberedState) (mid : World) (l : Lifts (λ from to. Asks noting number event from now to) (λ es. AreOfEvent number event es now) w old mid) where
  abbrev Both : Type 0
  Both = Lifts (λ from to. Onwards noting number (Some event) from (λ now mid. BringsItems noting mount now.number items mid after to) after to)
      (λ es. AreOfEventAnd number (Some event) es (λ now later. AreOfItems mount now.number items later after) after) w old later

  abbrev NotedRest : State → Noted → Type 0
  NotedRest state to = Follows state (BringsItems noting mount now.number items (at mid (old ++ l.events)) after to)
      ((after ≡ now) × (to ≡ at mid (old ++ l.events)))

  abbrev AppliedRest : State → List Entry → Type 0
  AppliedRest state es = Follows state (AreOfItems mount now.number items es after) ((after ≡ now) × (es ≡ []))

  then_lifts : (state : State) → now.state ≡ state → Follows state (BringsItems Step mount now.number items mid after later) ((after ≡ now) × (later ≡ mid)) → Both
  then_lifts (Shut ending) shut same = record {
    events = l.events;
    lifted = (
      now,
      at mid (old ++ l.events),
      l.lifted,
      subst (λ (t : State). NotedRest t (at later (old ++ l.events))) (sym shut) (same.0, ap (λ (x : World). at x (old ++ l.events)) same.1),
    );
    leads = same.1 ∙ l.leads;
    are = (now, entries w l.events, [], sym (append-nil (entries w l.events)), l.are, subst (λ (t : State). AppliedRest t []) (sym shut) (same.0, refl));
  }
  then_lifts Running run brings =
      let r = rest now.number mid (old ++ l.events) brings in
      record {
        events = l.events ++ r.events;
        lifted = (
          now,
          at mid (old ++ l.events),
          l.lifted,
          subst (λ (t : State). NotedRest t (at later (old ++ (l.events ++ r.events)))) (sym run)
              (subst (λ (xs : List Event). NotedRest Running (at later xs)) (append_assoc old l.events r.events) r.lifted),
        );
        leads = r.leads ∙ ap (λ (x : World). world_after_all x r.events) l.leads ∙ sym (after_joined w l.events r.events);
        are = (
          now,
          entries w l.events,
          entries mid r.events,
          entries_joined w l.events r.events ∙ ap (λ (x : World). entries w l.events ++ entries x r.events) (sym l.leads),
          l.are,
          subst (λ (t : State). AppliedRest t (entries mid r.events)) (sym run) r.are,
        );
      }

nothing_lifts : (number : Option ℕ) (w later : World) (old : List Event) (after : NumberedState) → (after ≡ running_pull number) × (later ≡ w)
    → Lifts (λ from to. (after ≡ running_pull number) × (to ≡ from)) (λ es. (es ≡ []) × (after ≡ running_pull number)) w old later
nothing_lifts number w later old after (so, e) = record { events = []; lifted = (so, same_at w later old e); leads = e; are = (refl, so) }

-- what items ask for
brings_lifts : (mount : List ℕ) (items : List PullItem) (number : Option ℕ) (w later : World) (old : List Event) (after : NumberedState)
    → BringsItems Step mount number items w after later
    → Lifts (λ from to. BringsItems noting mount number items from after to) (λ es. AreOfItems mount number items es after) w old later
brings_lifts mount [] number w later old after b = nothing_lifts number w later old after b
brings_lifts mount (Up shown ∷ items) None w later old after (now, mid, asks, follows) =
    then_lifts mount items None (event_of mount zero (Up shown)) w later old after (λ n mid before b. brings_lifts mount items n mid later before after b) now mid
    (asks_lifts None (event_of mount zero (Up shown)) w mid old now asks) now.state refl follows
brings_lifts mount (Sound block ∷ items) None w later old after b = nothing_lifts None w later old after b
brings_lifts mount (Named text ∷ items) None w later old after b = nothing_lifts None w later old after b
brings_lifts mount (item ∷ items) (Some id) w later old after (now, mid, asks, follows) =
    then_lifts mount items (Some id) (event_of mount id item) w later old after (λ n mid before b. brings_lifts mount items n mid later before after b) now mid
    (asks_lifts (Some id) (event_of mount id item) w mid old now asks) now.state refl follows

-- what is pulled in
pub comes_lifts : (pulling : Pulling) (items : List PullItem) (standing : AnswerStanding) (w later : World) (now : Pulling) (ends : State)
    → ComesOf Step pulling items standing w now ends later
    → Lifts (λ from to. ComesOf noting pulling items standing from now ends to) (λ es. AreOfPulled pulling items standing es now ends) w [] later
comes_lifts pulling items (GoesOn stage) w later now ends (after, brings, goes, so) =
    let l = brings_lifts pulling.mount items pulling.number w later [] after brings in
    record { events = l.events; lifted = (after, l.lifted, goes, so); leads = l.leads; are = (after, l.are, goes, so) }
comes_lifts pulling items (Stops fault) w later now ends (goes, shut, so) =
    let d = down_lifts pulling.number w later [] goes in
    record { events = d.events; lifted = (d.lifted, shut, so); leads = d.leads; are = (d.are, shut, so) }
