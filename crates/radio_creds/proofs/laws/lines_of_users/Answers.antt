use Rattle.radio_creds.proofs.LawLemmas.{user_line-exact}
use Rattle.radio_creds.proofs.laws.lines_of_users.Goals as goal

pub returns : goal.returns
returns c = user_line-exact c.cuts.ensures.first
