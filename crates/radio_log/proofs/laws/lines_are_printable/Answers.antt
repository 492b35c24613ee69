use Rattle.radio_log.proofs.LineLemmas.{body_printable}
use Rattle.radio_log.proofs.laws.lines_are_printable.Goals as goal

pub returns : goal.returns
returns c = λ note is. body_printable note is.0
