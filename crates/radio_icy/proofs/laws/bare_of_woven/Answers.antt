use Rattle.std.proofs.Common.{◌∙◌, sym}
use Rattle.radio_icy.proofs.BareLemmas.{sound_in-is-bare, texts_in-is-block_texts}
use Rattle.radio_icy.proofs.UnwovenLemmas.{sound_in-woven, texts_in-woven}
use Rattle.radio_icy.proofs.laws.bare_of_woven.Goals as goal

pub returns-clause-sound : goal.returns-clause-sound
returns-clause-sound c n calls out some woven = sym (sound_in-is-bare n out) ∙ sound_in-woven n calls out some woven

pub returns-clause-texts : goal.returns-clause-texts
returns-clause-texts c n calls out some woven = sym (texts_in-is-block_texts n out) ∙ texts_in-woven n calls out some woven
