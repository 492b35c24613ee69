use Rattle.radio_floor.proofs.EventLemmas.{scripts_come}
use Rattle.radio_floor.proofs.laws.scripts_come_to_events.Goals as goal

pub returns : goal.returns
returns c = scripts_come
