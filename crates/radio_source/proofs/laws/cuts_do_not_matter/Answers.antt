use Rattle.radio_source.proofs.OutputLemmas.{cuts}
use Rattle.radio_source.proofs.laws.cuts_do_not_matter.Goals as goal

pub returns : goal.returns
returns c = cuts c.blocks_are_the_data.ensures.joined c.blocks_are_the_data.ensures.none
