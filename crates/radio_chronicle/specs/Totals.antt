-- What a history counts up to.
use Rattle.std.specs.Prelude.{◌≡◌, ℕ, ◌+◌, List, [], ◌∷◌, sum_by}
use Rattle.radio_parts_station.specs.World.{World}
use Rattle.radio_parts.specs.Step.{world_after}
use Rattle.radio_core.specs.Totals.{arrivals, departures, relays_up, relays_down, seatings, listeners_leaving, clients_there, relays_there, seats_there, seats_lost}
use Rattle.radio_events.specs.declared.entry.Entry.{Entry}
use Rattle.radio_chronicle.specs.History.{world_of}

-- how many clients have come, and how many have left
-- rule: History adds up
abbrev pub clients_come : List Entry → ℕ
clients_come history = sum_by (λ e. arrivals e.reply e.event) history

abbrev pub clients_left : List Entry → ℕ
clients_left history = sum_by (λ e. departures e.reply e.event) history

-- how many relays have come up, and how many have gone down
-- rule: History adds up
abbrev pub relays_come : List Entry → ℕ
relays_come history = sum_by (λ e. relays_up e.reply e.event) history

abbrev pub relays_gone : List Entry → ℕ
relays_gone history = sum_by (λ e. relays_down e.reply e.event) history

-- how many seats were made
abbrev pub seats_made : List Entry → ℕ
seats_made history = sum_by (λ e. seatings e.reply) history

-- how many of those who have left were listeners, where this was the state before
abbrev pub listeners_left : World → List Entry → ℕ
listeners_left w [] = 0
listeners_left w (e ∷ history) = listeners_leaving w e.reply e.event + listeners_left (world_after w e.event) history

-- the seats that have ended: of listeners who are there still, and of those who have left
-- rule: History adds up
abbrev pub seats_ended : World → List Entry → ℕ
seats_ended opening history = seats_lost (world_of opening history) + listeners_left opening history

-- rule: History adds up
pub record HistoryAddsUp (opening : World) (history : List Entry) : Type 0 where
  -- numbers are given one after another, from 1 on, to clients and to relays
  pub numbers : clients_come history + relays_come history ≡ (world_of opening history).station.last_id
  -- the clients who have come are there, or have left
  pub clients : clients_come history ≡ clients_there (world_of opening history) + clients_left history
  -- the relays that have come up are there, or have gone down
  pub relays : relays_come history ≡ relays_there (world_of opening history) + relays_gone history
  -- the seats that were made are there, or have ended
  pub seats : seats_made history ≡ seats_there (world_of opening history) + seats_ended opening history
