use Rattle.radio_addr.proofs.LawLemmas.{range_of-lists}
use Rattle.radio_addr.proofs.laws.lines_list_ranges.Goals as goal

pub returns : goal.returns
returns c = range_of-lists c.cuts.ensures.first c.cuts.ensures.none
