use Rattle.radio_settings.proofs.LawLemmas.{first_repeat_cut, first_repeat_at_cut, apart_from_none, none_from_apart}
use Rattle.radio_settings.proofs.laws.first_repeats.Goals as goal

pub returns-clause-found : goal.returns-clause-found
returns-clause-found c names name = (first_repeat_cut names name, first_repeat_at_cut names name)

pub returns-clause-apart : goal.returns-clause-apart
returns-clause-apart c names = (apart_from_none names, none_from_apart names)
