use Rattle.radio_admin.proofs.LawLemmas.{first_written}
use Rattle.radio_admin.proofs.laws.first_arguments_count.Goals as goal

pub returns : goal.returns
returns c = first_written
