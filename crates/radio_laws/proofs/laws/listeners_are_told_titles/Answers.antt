use Rattle.radio_laws.proofs.Streams.TitleLemmas.{titles_hold}
use Rattle.radio_laws.proofs.laws.listeners_are_told_titles.Goals as goal

pub returns : goal.returns
returns c = record { told = λ settings lists events event. titles_hold settings lists events event }
