use Rattle.radio_headline.proofs.HistoryLemmas.{lawful_histories}
use Rattle.radio_headline.proofs.laws.histories_are_lawful.Goals as goal

pub returns : goal.returns
returns c = lawful_histories c.events_are_lawful.ensures c.draws_are_stretches.ensures.slices c.draws_are_stretches.ensures.cut c.draws_are_stretches.ensures.nobody
