-- What a pass of an intake says behind a worker's time, or that of all.
use Rattle.std.specs.Prelude.{◌≡◌, List, ◌++◌}
use Rattle.radio_workers.specs.Passes.{PassRecord}

-- The pass is of the same intake, and has the same parts. Nothing was put through it. What was taken through it follows what was
-- taken before.
-- rule: Newcomers
pub record HasTakenMore {L : Type 0} (before now : PassRecord L) : Type 0 where
  pub intake : now.intake ≡ before.intake
  pub parts : now.parts ≡ before.parts
  pub put : now.put ≡ before.put
  pub more : List L
  pub taken : now.taken ≡ before.taken ++ more
