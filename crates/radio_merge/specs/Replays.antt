-- A core that steps through a history while lists are merged.
use Rattle.std.specs.Prelude.{List}
use Rattle.radio_parts_station.specs.World.{World}
use Rattle.radio_core.specs.Represents.{Represents}
use Rattle.radio_events.specs.declared.entry.Entry.{Entry}
use Rattle.radio_chronicle.specs.declared.line.ControlLine.{ControlLine}
use Rattle.radio_parts_mount.specs.declared.item.MountItem.{MountItem}
use Rattle.radio_chronicle.specs.declared.stamp.Stamp.{Stamp}
use Rattle.radio_chronicle.specs.History.{IsRun, world_of}
use Rattle.radio_merge.specs.Merged.{Positions, Merged}

-- these places were taken, their entries are a run from the opening state, and the core represents the state after it
pub record IsSoFar (opening : World) (control : List ControlLine) (mounts : List (List MountItem)) (order : List Stamp) (core : World) (history : List Entry)
    (at : Positions) : Type 0 where
  pub merged : Merged control mounts order history at
  pub run : IsRun opening history
  pub represents : Represents core (world_of opening history)
