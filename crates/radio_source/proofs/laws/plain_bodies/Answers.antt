use Rattle.radio_source.proofs.PlaceLemmas.{after_plain, data_of_plain}
use Rattle.radio_source.proofs.laws.plain_bodies.Goals as goal

pub returns-clause-found : goal.returns-clause-found
returns-clause-found c = data_of_plain

pub returns-clause-place : goal.returns-clause-place
returns-clause-place c = after_plain
