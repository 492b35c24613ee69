use Rattle.radio_serving.proofs.Findings.{news_found}
use Rattle.radio_serving.proofs.Leavers.{leavers_gone}
use Rattle.radio_serving.proofs.laws.news_is_found.Goals as goal

pub returns : goal.returns
returns c = record { found = news_found; gone = leavers_gone }
