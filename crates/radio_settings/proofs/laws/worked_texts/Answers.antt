use Rattle.std.proofs.Common.{refl}
use Rattle.radio_settings.proofs.OnLiterals.{on_literals}
use Rattle.radio_settings.proofs.laws.worked_texts.Goals as goal

pub returns-clause-empty : goal.returns-clause-empty
unfolding on_literals
returns-clause-empty c = refl

pub returns-clause-number : goal.returns-clause-number
unfolding on_literals
returns-clause-number c = refl

pub returns-clause-no_value : goal.returns-clause-no_value
unfolding on_literals
returns-clause-no_value c = refl

pub returns-clause-port : goal.returns-clause-port
unfolding on_literals
returns-clause-port c = refl

pub returns-clause-no_table : goal.returns-clause-no_table
unfolding on_literals
returns-clause-no_table c = refl

pub returns-clause-no_list : goal.returns-clause-no_list
unfolding on_literals
returns-clause-no_list c = refl

pub returns-clause-bad_name : goal.returns-clause-bad_name
unfolding on_literals
returns-clause-bad_name c = refl

pub returns-clause-twice : goal.returns-clause-twice
unfolding on_literals
returns-clause-twice c = refl

pub returns-clause-two_words : goal.returns-clause-two_words
unfolding on_literals
returns-clause-two_words c = refl

pub returns-clause-at_the_page : goal.returns-clause-at_the_page
unfolding on_literals
returns-clause-at_the_page c = refl
