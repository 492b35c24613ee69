-- A part that takes the place of another, for as long as it is lent.
use Rattle.std.specs.Prelude.{◌≡◌, Bool, true, false, ℕ, List, Some, find, if◌then◌else◌}
use Rattle.std.specs.Option.{option_map_or}
use Rattle.std.specs.Str.{bytes_eq}
use Rattle.radio_attachments.specs.Rows.{is_attached}
use Rattle.radio_parts_table.specs.Listening.{Listening}
use Rattle.radio_parts_table.specs.Agree.{AllAgree}
use Rattle.radio_parts_mount.specs.Attached.{is_among, place_in}
use Rattle.radio_parts_table.specs.Exchange.{IsInPlace}
use Rattle.radio_parts_mount.specs.declared.part.MountPart.{MountPart}
use Rattle.radio_parts_mount.specs.Sessions.{session_of}
use Rattle.radio_policy.specs.declared.rule.Rule.{Rule}
use Rattle.radio_policy.specs.declared.rule.Rule.TheVariants.{Lagged}
use Rattle.radio_seats_rows.specs.declared.seat.Listener.{Listener}
use Rattle.radio_seats_rows.specs.declared.seat.Seat.{Seat}
use Rattle.radio_seats_rows.specs.Seats.{advanced, last_mount, loses, seat_of, sits_at, with_end}

-- who sits at the part's mount, and is attached to the part, is at the place of its attachment
abbrev pub HaveTheirPlaces : MountPart → List Listener → Type 0
HaveTheirPlaces part seats = (id place : ℕ) (seat : Seat) → seat_of seats id ≡ Some seat → seat.mount ≡ part.mount
    → place_in (find (is_attached id) part.attachments) ≡ Some place → seat.place ≡ place

-- A listener as it is seen after: as before; or, if it sits at the mount or sat there last, at another place, or lagged out.
pub data IsSeenAfter (mount : List ℕ) (a b : Listener) : Type 0 where
  AsBefore : a ≡ b → IsSeenAfter mount a b
  HeardTo : (place : ℕ) → b ≡ advanced place a → bytes_eq mount (last_mount a.seating) ≡ true → IsSeenAfter mount a b
  LaggedOut : b ≡ loses Lagged a → bytes_eq mount (last_mount a.seating) ≡ true → IsSeenAfter mount a b

-- The part is in the place of the one that is returned, and whoever had lagged out of it has lost its seat there. Nothing else has changed.
pub record IsLent (part there : MountPart) (before after : Listening) : Type 0 where
  pub prepared : after.prepared ≡ before.prepared
  pub sessions : AllAgree (IsInPlace part.session) before.live after.live
  pub session : session_of after.live part.mount ≡ part.session
  pub listeners : AllAgree (IsSeenAfter part.mount) before.seats after.seats
  pub places : HaveTheirPlaces part after.seats
  pub lost : (id : ℕ) → is_among part.lagged id ≡ true → sits_at after.seats id part.mount ≡ false
  pub mount : there.mount ≡ part.mount
  pub was_live : there.session ≡ session_of before.live part.mount
  pub had_places : HaveTheirPlaces there before.seats

-- the listener of this number has a seat of which this holds
abbrev pub lags_now : (Seat → Bool) → List Listener → ℕ → Bool
lags_now p seats id = option_map_or p (seat_of seats id) false

-- if it has, it has lost it by the rule
abbrev pub after_turn : (Seat → Bool) → Rule → List Listener → ℕ → List Listener
after_turn p rule seats id = if lags_now p seats id then with_end seats id rule else seats
