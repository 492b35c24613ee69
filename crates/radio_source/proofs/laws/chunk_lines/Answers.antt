use Rattle.std.proofs.Common.{◌∙◌, ap}
use Rattle.radio_source.specs.declared.chunk_line.LineReading.TheVariants.{Whole}
use Rattle.radio_source.proofs.ChunkLineLemmas.{reads_whole, reads_partial, reads_never, whole_is_line, unfinished_has_none, unfinished_may, refused_never}
use Rattle.radio_source.proofs.laws.chunk_lines.Goals as goal

pub returns-clause-whole : goal.returns-clause-whole
returns-clause-whole c bytes size = (whole_is_line bytes size, λ x. reads_whole bytes x.0 x.1 x.2 ∙ ap Whole x.3)

pub returns-clause-unfinished : goal.returns-clause-unfinished
returns-clause-unfinished c bytes = (λ h. (unfinished_has_none bytes h, unfinished_may bytes h), λ x. reads_partial bytes x.0 x.1)

pub returns-clause-refused : goal.returns-clause-refused
returns-clause-refused c bytes = (refused_never bytes, reads_never bytes)
