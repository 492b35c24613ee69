use Rattle.radio_floor.proofs.Simulation.{cores_ask, cores_go_down, cores_take}
use Rattle.radio_floor.proofs.pulls.cores_pull_as_their_states.Goals as goal

pub returns : goal.returns
returns c = record { takes = cores_take; asks = cores_ask; goes = cores_go_down }
