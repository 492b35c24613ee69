use Rattle.radio_creds.proofs.LawLemmas.{users_of-first, users_of-has}
use Rattle.radio_creds.proofs.laws.first_lines_count.Goals as goal

pub returns-clause-digest : goal.returns-clause-digest
returns-clause-digest c = users_of-first

pub returns-clause-user : goal.returns-clause-user
returns-clause-user c = users_of-has
