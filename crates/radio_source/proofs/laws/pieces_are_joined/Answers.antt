use Rattle.radio_source.proofs.PlaceLemmas.{after-append, data_of-append}
use Rattle.radio_source.proofs.laws.pieces_are_joined.Goals as goal

pub returns-clause-place : goal.returns-clause-place
returns-clause-place c = after-append

pub returns-clause-found : goal.returns-clause-found
returns-clause-found c = data_of-append
