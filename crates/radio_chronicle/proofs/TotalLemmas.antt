-- the law of totals, over histories
use Rattle.std.proofs.Common.{◌≡◌, ℕ, ◌+◌, List, [], ◌∷◌, ◌++◌, refl, ap, sym, subst, ◌∙◌, arith}
use Rattle.std.proofs.lemmas.List.Sums.{sum_by-cons}
use Rattle.radio_settings_values.specs.declared.settings.Settings.{Settings}
use Rattle.radio_access.specs.Lists.{Lists}
use Rattle.radio_chronicle.proofs.Words.{Event, Reply, Arrived}
use Rattle.radio_parts_station.specs.World.{World, opening}
use Rattle.radio_core.specs.Others.{AsClient, AsRelay, HasCome, RepliesFit}
use Rattle.radio_core.specs.Run.{world_after_all, run_after}
use Rattle.radio_parts.specs.Step.{reply_to, world_after}
use Rattle.radio_core.specs.Totals.{arrivals, departures, relays_up, relays_down, seatings, listeners_leaving, clients_there, relays_there, seats_there, seats_lost}
use Rattle.radio_core.specs.Totals.{numbers_given, AddsUp as StepAddsUp}
use Rattle.radio_events.specs.declared.entry.Entry.{Entry}
use Rattle.radio_chronicle.specs.History.{world_of, IsRun}
use Rattle.radio_chronicle.specs.Totals.{clients_come, clients_left, relays_come, relays_gone, seats_made, listeners_left, HistoryAddsUp}

run_more : (w : World) (events : List Event) (event : Event) → world_after_all w (events ++ event ∷ []) ≡ world_after (world_after_all w events) event
run_more w [] event = refl
run_more w (first ∷ events) event = run_more (world_after w first) events event

-- a number is given to a client or to a relay
given_to : (w : World) (event : Event) (id : ℕ) → HasCome w id event → 1 ≡ arrivals (Arrived id) event + relays_up (Arrived id) event
given_to w event id (AsClient peer stands) = refl
given_to w event id (AsRelay mount shown stands) = refl

both_of : (w : World) (event : Event) (reply : Reply) → ((id : ℕ) → reply ≡ Arrived id → HasCome w id event)
    → numbers_given reply ≡ arrivals reply event + relays_up reply event
both_of w event (Arrived id) come = given_to w event id (come id refl)
both_of w event reply come = refl

both_given : (w : World) (event : Event) → RepliesFit w event
    → numbers_given (reply_to w event) ≡ arrivals (reply_to w event) event + relays_up (reply_to w event) event
both_given w event fits = both_of w event (reply_to w event) (λ id is. (fits.arrived id is).0)

-- what a history adds from any state on, of those that come
record Adds (w : World) (history : List Entry) : Type 0 where
  numbers : w.station.last_id + (clients_come history + relays_come history) ≡ (world_of w history).station.last_id
  clients : clients_there w + clients_come history ≡ clients_there (world_of w history) + clients_left history
  relays : relays_there w + relays_come history ≡ relays_there (world_of w history) + relays_gone history
  seats : seats_there w + seats_lost w + seats_made history
      ≡ seats_there (world_of w history) + seats_lost (world_of w history) + listeners_left w history

-- the reply of an entry is that of its step
adds_first : (w : World) (e : Entry) (history : List Entry) → e.reply ≡ reply_to w e.event → StepAddsUp w e.event
    → numbers_given (reply_to w e.event) ≡ arrivals (reply_to w e.event) e.event + relays_up (reply_to w e.event) e.event
    → Adds (world_after w e.event) history → Adds w (e ∷ history)
adds_first w e history is step together rest =
    let later = world_after w e.event in
    let event = e.event in
    let of : (P : Reply → Type 0) → P (reply_to w event) → P e.reply = λ P p. subst P (sym is) p in
    let step_numbers : later.station.last_id ≡ w.station.last_id + numbers_given e.reply = of (λ r. later.station.last_id ≡ w.station.last_id + numbers_given r) step.numbers in
    let both : numbers_given e.reply ≡ arrivals e.reply event + relays_up e.reply event = of (λ r. numbers_given r ≡ arrivals r event + relays_up r event) together in
    let step_clients : clients_there later + departures e.reply event ≡ clients_there w + arrivals e.reply event =
    of (λ r. clients_there later + departures r event ≡ clients_there w + arrivals r event) step.clients in
    let step_relays : relays_there later + relays_down e.reply event ≡ relays_there w + relays_up e.reply event =
    of (λ r. relays_there later + relays_down r event ≡ relays_there w + relays_up r event) step.relays in
    let step_seats : seats_there later + seats_lost later + listeners_leaving w e.reply event ≡ seats_there w + seats_lost w + seatings e.reply =
    of (λ r. seats_there later + seats_lost later + listeners_leaving w r event ≡ seats_there w + seats_lost w + seatings r) step.seats in
    let come = sum_by-cons (λ (x : Entry). arrivals x.reply x.event) e history in
    let left = sum_by-cons (λ (x : Entry). departures x.reply x.event) e history in
    let up = sum_by-cons (λ (x : Entry). relays_up x.reply x.event) e history in
    let down = sum_by-cons (λ (x : Entry). relays_down x.reply x.event) e history in
    let made = sum_by-cons (λ (x : Entry). seatings x.reply) e history in
    record {
      numbers = omega (arith, step_numbers, both, come, up, rest.numbers);
      clients = omega (arith, step_clients, come, left, rest.clients);
      relays = omega (arith, step_relays, up, down, rest.relays);
      seats = omega (arith, step_seats, made, rest.seats);
    }

module _ (settings : Settings) (lists : Lists) (steps : (events : List Event) (event : Event) → StepAddsUp (run_after settings lists events) event)
    (fits : (events : List Event) (event : Event) → RepliesFit (run_after settings lists events) event) where
  adds_from : (w : World) (events : List Event) → w ≡ run_after settings lists events → (history : List Entry) → IsRun w history → Adds w history
  adds_from w events are [] run = record { numbers = omega arith; clients = omega arith; relays = omega arith; seats = omega arith }
  adds_from w events are (e ∷ history) run =
      let next : world_after w e.event ≡ run_after settings lists (events ++ e.event ∷ []) =
      ap (λ (x : World). world_after x e.event) are ∙ sym (run_more (opening settings lists) events e.event) in
      adds_first w e history run.0 (subst (λ (x : World). StepAddsUp x e.event) (sym are) (steps events e.event))
      (both_given w e.event (subst (λ (x : World). RepliesFit x e.event) (sym are) (fits events e.event)))
      (adds_from (world_after w e.event) (events ++ e.event ∷ []) next history run.1)

  pub adds_up : (history : List Entry) → IsRun (opening settings lists) history → HistoryAddsUp (opening settings lists) history
  adds_up history run =
      let adds = adds_from (opening settings lists) [] refl history run in
      record {
        numbers = omega (arith, adds.numbers);
        clients = omega (arith, adds.clients);
        relays = omega (arith, adds.relays);
        seats = omega (arith, adds.seats);
      }
