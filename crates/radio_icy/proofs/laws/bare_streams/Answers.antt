use Rattle.radio_icy.proofs.BareLemmas.{bare-short, bare-long}
use Rattle.radio_icy.proofs.laws.bare_streams.Goals as goal

pub returns-clause-short : goal.returns-clause-short
returns-clause-short c = bare-short

pub returns-clause-long : goal.returns-clause-long
returns-clause-long c = bare-long
