use Rattle.radio_core.proofs.Kept.SourceReplyLemmas as lemmas
use Rattle.radio_core.proofs.laws.sources_are_told_by_their_data.Goals as goal

pub returns : goal.returns
returns c = record {
  blocks = lemmas.told_by_data;
  ends = lemmas.ends_told;
}
