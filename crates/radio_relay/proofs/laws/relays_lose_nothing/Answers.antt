use Rattle.radio_relay.proofs.RelayLemmas as lemmas
use Rattle.radio_relay.proofs.laws.relays_lose_nothing.Goals as goal

pub returns : goal.returns
returns c =
    lemmas.relays_lose_nothing c.readings_agree.ensures.responses c.answers_read_back.ensures.short c.unwoven_streams.ensures.sound
    c.unwoven_streams.ensures.texts c.bare_of_woven.ensures.sound c.bare_of_woven.ensures.texts c.titles_of_texts.ensures.alone
