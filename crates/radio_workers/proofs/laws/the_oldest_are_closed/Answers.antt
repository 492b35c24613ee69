use Rattle.radio_workers.proofs.Lingering.{both_kept, one_of_both, sources_stay}
use Rattle.radio_workers.proofs.laws.the_oldest_are_closed.Goals as goal

pub returns : goal.returns
returns c = record { one = one_of_both; sources = sources_stay; kept = both_kept }
