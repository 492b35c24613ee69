use Rattle.radio_source.proofs.ChunkedLemmas.{front_leads}
use Rattle.radio_source.proofs.laws.unfinished_chunks_bring_their_data.Goals as goal

pub returns-clause-found : goal.returns-clause-found
returns-clause-found c chunks line front valid short some fits = (front_leads chunks line front valid short some fits).brings

pub returns-clause-place : goal.returns-clause-place
returns-clause-place c chunks line front valid short some fits = (front_leads chunks line front valid short some fits).goes
