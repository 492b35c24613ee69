-- Which mounts wait for a session, and which are wanted, in the words of the settings.
use Rattle.std.specs.Prelude.{◌≡◌, ℕ, true, List}
use Rattle.radio_settings_values.specs.declared.settings.RelaySetting.{RelaySetting}
use Rattle.radio_settings_values.specs.declared.settings.Settings.{Settings}
use Rattle.radio_tables.specs.Lists.{Has}
use Rattle.radio_seats_rows.specs.declared.seat.Listener.{Listener}
use Rattle.radio_seats_rows.specs.declared.seat.Seat.{Seat}
use Rattle.radio_seats_rows.specs.declared.seat.Seating.TheVariants.{Sits}
use Rattle.radio_parts_station.specs.Waiting.{is_on_demand}
use Rattle.radio_parts_facts.specs.Wanted.{wanted}
use Rattle.radio_parts_station.specs.World.{World}

-- a relay of the settings feeds the mount, and does so on demand
pub record IsFedOnDemand (settings : Settings) (mount : List ℕ) : Type 0 where
  pub relay : RelaySetting
  pub is_one : Has relay settings.relays
  pub its_mount : relay.local_mount ≡ mount
  pub on_demand : relay.on_demand ≡ true

-- A mount without a session waits for one only if a relay feeds it on demand. It does wait if all relays that feed it do so on
-- demand.
-- rule: Waiting mount
pub record WaitsOnDemand (settings : Settings) (mount : List ℕ) : Type 0 where
  pub only : is_on_demand settings mount ≡ true → IsFedOnDemand settings mount
  pub each : IsFedOnDemand settings mount
      → ((relay : RelaySetting) → Has relay settings.relays → relay.local_mount ≡ mount → relay.on_demand ≡ true) → is_on_demand settings mount ≡ true

-- one of the listeners sits at the mount
pub record IsSatAt (seats : List Listener) (mount : List ℕ) : Type 0 where
  pub listener : Listener
  pub is_one : Has listener seats
  pub seat : Seat
  pub sits : listener.seating ≡ Sits seat
  pub at_the_mount : seat.mount ≡ mount

-- the wanted mounts are those that a relay feeds on demand and at which somebody sits, and no others
-- rule: Pulls on demand
pub record WantedAreSatAt (w : World) : Type 0 where
  pub only : (mount : List ℕ) → Has mount (wanted w) → IsFedOnDemand w.station.settings mount × IsSatAt w.seats mount
  pub each : (mount : List ℕ) → IsFedOnDemand w.station.settings mount → IsSatAt w.seats mount → Has mount (wanted w)
