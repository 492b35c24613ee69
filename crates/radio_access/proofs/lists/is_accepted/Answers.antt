use Rattle.std.proofs.lemmas.Bool.Decides.{same_from_decides}
use Rattle.radio_access.proofs.AcceptsLemmas.{accepts-Decides}
use Rattle.radio_access.proofs.lists.is_accepted.Goals as goal

pub returns : goal.returns
returns c = same_from_decides c.accepts.result _ c.accepts.ensures (accepts-Decides c.args.users.now c.args.pair.now)
