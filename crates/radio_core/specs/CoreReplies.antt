-- Cores, by the states that they represent.
use Rattle.std.specs.Prelude.{◌≡◌, ℕ, List}
use Rattle.radio_core.specs.SourceReplies.{to_data, to_end}
use Rattle.radio_core.specs.Represents.{Represents}
use Rattle.radio_parts_station.specs.World.{World}

pub record CoresGoByTheirStates : Type 0 where
  -- two cores that represent one state are the same
  pub is_one : (core other w : World) → Represents core w → Represents other w → core ≡ other
  -- a source's data, and their end, are replied to as the state replies
  pub to_data : (core w : World) (id : ℕ) (bytes : List ℕ) → Represents core w → to_data core id bytes ≡ to_data w id bytes
  pub to_end : (core w : World) (id : ℕ) → Represents core w → to_end core id ≡ to_end w id
