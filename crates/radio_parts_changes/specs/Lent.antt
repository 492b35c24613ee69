-- The state, once a part is lent to it.
use Rattle.std.specs.Prelude.{◌≡◌, true, false, ℕ}
use Rattle.std.specs.Option.{option_map_or}
use Rattle.radio_parts_table.specs.Lent.{HaveTheirPlaces, IsSeenAfter}
use Rattle.radio_parts_station.specs.World.{World}
use Rattle.radio_parts_table.specs.Agree.{AllAgree}
use Rattle.radio_parts_mount.specs.Attached.{is_among}
use Rattle.radio_parts_table.specs.Exchange.{IsInPlace}
use Rattle.radio_parts_mount.specs.declared.part.MountPart.{MountPart}
use Rattle.radio_parts_mount.specs.Due.{last_moment, session_due}
use Rattle.radio_parts_mount.specs.Sessions.{session_of}
use Rattle.radio_seats_rows.specs.Seats.{sits_at}

-- The part is in the place of the one that is returned, and whoever had lagged out of it has lost its seat there. All that is not its mount's is as
-- before.
pub record IsLentTo (part there : MountPart) (before after : World) : Type 0 where
  pub station : after.station ≡ record before.station { live = after.station.live }
  pub sessions : AllAgree (IsInPlace part.session) before.station.live after.station.live
  pub session : session_of after.station.live part.mount ≡ part.session
  pub listeners : AllAgree (IsSeenAfter part.mount) before.seats after.seats
  pub places : HaveTheirPlaces part after.seats
  pub lost : (id : ℕ) → is_among part.lagged id ≡ true → sits_at after.seats id part.mount ≡ false
  pub mount : there.mount ≡ part.mount
  pub was_live : there.session ≡ session_of before.station.live part.mount
  pub had_places : HaveTheirPlaces there before.seats

-- when the part's session is due; the last moment if it has none
abbrev pub part_due : ℕ → MountPart → ℕ
part_due seconds part = option_map_or (session_due seconds) part.session last_moment
