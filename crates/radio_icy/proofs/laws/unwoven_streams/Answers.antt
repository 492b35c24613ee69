use Rattle.radio_icy.proofs.BareLemmas.{sound_in-is-bare, texts_in-is-block_texts}
use Rattle.radio_icy.proofs.laws.unwoven_streams.Goals as goal

pub returns-clause-sound : goal.returns-clause-sound
returns-clause-sound c = sound_in-is-bare

pub returns-clause-texts : goal.returns-clause-texts
returns-clause-texts c = texts_in-is-block_texts
