-- What has had its time, in numbers.
use Rattle.std.proofs.Common.{◌≡◌, ℕ, ◌*◌, ◌-◌, ◌≤◌, true, refl}
use Rattle.radio_parts_station.proofs.Words.{◌↔◌, options_for, ClientState}
use Rattle.radio_parts_mount.proofs.TimeoutLemmas.{lies_back_when, lags_when, sat_out_when}
use Rattle.radio_parts_station.specs.declared.clients.ClientState.TheVariants.{Undecided, Feeds, Listens, Answered, Ended}
use Rattle.radio_parts_station.specs.Timeouts.{asks_nothing, TestsAreInNumbers}

asked_nothing : (seconds now arrived : ℕ) (state : ClientState)
    → (asks_nothing seconds now arrived state ≡ true) ↔ ((state ≡ Undecided) × (1000 * seconds ≤ now - arrived))
asked_nothing seconds now arrived Undecided = ((λ e. (refl, (lies_back_when seconds arrived now).0 e)), (λ h. (lies_back_when seconds arrived now).1 h.1))
asked_nothing seconds now arrived (Feeds mount) = ((λ e. cc), (λ h. absurd (let other : Feeds mount ≡ Undecided = h.0 in cc)))
asked_nothing seconds now arrived Listens = ((λ e. cc), (λ h. absurd (let other : Listens ≡ Undecided = h.0 in cc)))
asked_nothing seconds now arrived Answered = ((λ e. cc), (λ h. absurd (let other : Answered ≡ Undecided = h.0 in cc)))
asked_nothing seconds now arrived (Ended rule) = ((λ e. cc), (λ h. absurd (let other : Ended rule ≡ Undecided = h.0 in cc)))

pub tests_are_in_numbers : TestsAreInNumbers
tests_are_in_numbers = record {
  lags = lags_when;
  sits_out = λ settings now seat. sat_out_when (options_for settings seat.home).listeners.max_listener_duration seat.since now;
  asks_nothing = λ seconds now client. asked_nothing seconds now client.arrived client.state;
  sends_nothing = λ seconds now session. lies_back_when seconds session.last_block now;
}
