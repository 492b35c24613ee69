-- A mount's part that is taken out again.
use Rattle.std.specs.Prelude.{◌≡◌, ℕ, List, []}
use Rattle.radio_parts_changes.specs.Lent.{IsLentTo}
use Rattle.radio_parts_station.specs.World.{World}
use Rattle.radio_parts_mount.specs.declared.part.MountPart.{MountPart}

-- a part of the mount to which nobody is attached
pub record IsUnattachedPart (name : List ℕ) (part : MountPart) : Type 0 where
  pub mount : part.mount ≡ name
  pub attached : part.attachments ≡ []
  pub lagged : part.lagged ≡ []

-- such a one is in its place then
abbrev pub IsTakenOut : List ℕ → MountPart → World → World → Type 0
IsTakenOut mount part before after = (stand_in : MountPart) × IsUnattachedPart mount stand_in × IsLentTo stand_in part before after
