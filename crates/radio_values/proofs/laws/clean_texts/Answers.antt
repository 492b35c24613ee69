use Rattle.radio_values.proofs.CleaningLemmas.{cleaned-IsUtf8, cleaned-fits, cleaned-cleaned, cleaned-shown, cleaned-bytes, cleaned-front, cleaned-longest}
use Rattle.radio_values.proofs.laws.clean_texts.Goals as goal

pub returns-clause-text : goal.returns-clause-text
returns-clause-text c = cleaned-IsUtf8

pub returns-clause-fits : goal.returns-clause-fits
returns-clause-fits c = cleaned-fits

pub returns-clause-again : goal.returns-clause-again
returns-clause-again c = cleaned-cleaned

pub returns-clause-shown : goal.returns-clause-shown
returns-clause-shown c = cleaned-shown

pub returns-clause-bytes : goal.returns-clause-bytes
returns-clause-bytes c = cleaned-bytes

pub returns-clause-front : goal.returns-clause-front
returns-clause-front c = cleaned-front

pub returns-clause-longest : goal.returns-clause-longest
returns-clause-longest c = cleaned-longest
