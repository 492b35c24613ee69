use Rattle.radio_texts.proofs.CutsLemmas.{fields_at-cut, some_field}
use Rattle.radio_texts.proofs.laws.fields.Goals as goal

pub returns-clause-by_cuts : goal.returns-clause-by_cuts
returns-clause-by_cuts c = fields_at-cut

pub returns-clause-some : goal.returns-clause-some
returns-clause-some c = some_field
