use Rattle.radio_heads.proofs.AnswerLemmas.{listener_is_read, short_listener_is_read, denial_is_read, text_is_read}
use Rattle.radio_heads.proofs.laws.answers_read_back.Goals as goal

pub returns-clause-listener : goal.returns-clause-listener
returns-clause-listener c = listener_is_read

pub returns-clause-short : goal.returns-clause-short
returns-clause-short c = short_listener_is_read

pub returns-clause-denial : goal.returns-clause-denial
returns-clause-denial c = denial_is_read

pub returns-clause-text : goal.returns-clause-text
returns-clause-text c = text_is_read
