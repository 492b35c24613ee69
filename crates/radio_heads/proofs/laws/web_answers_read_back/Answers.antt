use Rattle.radio_heads.proofs.WebLemmas.{page_is_read, stream_is_read, text_is_read}
use Rattle.radio_heads.proofs.laws.web_answers_read_back.Goals as goal

pub returns : goal.returns
returns c = record { stream = stream_is_read; text = text_is_read; page = page_is_read }
