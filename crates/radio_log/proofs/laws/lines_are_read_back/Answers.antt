use Rattle.radio_log.specs.Lines.{fields_of}
use Rattle.radio_log.proofs.ByteLemmas.{values_are_bytes}
use Rattle.radio_log.proofs.LineLemmas.{line_ends, body_read, fields_read, fields_named}
use Rattle.radio_log.proofs.laws.lines_are_read_back.Goals as goal

pub returns : goal.returns
returns c = λ note is. record {
  ends = λ rest. line_ends note rest is.0;
  words = body_read note is.0;
  fields = fields_read (fields_of note.fact) (fields_named note.fact) (values_are_bytes note.fact is.1);
}
