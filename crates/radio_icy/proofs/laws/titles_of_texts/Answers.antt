use Rattle.radio_icy.proofs.TitlesLemmas.{title_of-title_text, title_of-with_url}
use Rattle.radio_icy.proofs.laws.titles_of_texts.Goals as goal

pub returns-clause-alone : goal.returns-clause-alone
returns-clause-alone c = title_of-title_text

pub returns-clause-with_url : goal.returns-clause-with_url
returns-clause-with_url c = title_of-with_url
