use Rattle.radio_icy.proofs.TitlesLemmas.{title_in, title_from}
use Rattle.radio_icy.proofs.laws.titles_in_texts.Goals as goal

pub returns : goal.returns
returns c text title = (title_in text title, title_from text title)
