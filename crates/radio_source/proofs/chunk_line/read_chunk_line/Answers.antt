use Rattle.std.proofs.Common.{◌∙◌, ap, sym}
use Rattle.radio_source.specs.declared.chunk_line.LineReading.TheVariants.{Whole}
use Rattle.radio_source.proofs.ChunkLineLemmas.{reads_whole, reads_partial, reads_never}
use Rattle.radio_source.proofs.chunk_line.read_chunk_line.Goals as goal

pub returns-in-Ok-Complete : goal.returns-in-Ok-Complete
returns-in-Ok-Complete c =
    let line = rw c.in-Ok-Complete.field-0-is at c.in-Ok-Complete.ensures.complete in
    ap Whole line.1.size_is ∙ sym (reads_whole _ line.0 _ line.1.reads)

pub returns-in-Ok-Partial : goal.returns-in-Ok-Partial
returns-in-Ok-Partial c =
    let none = rw c.in-Ok-Partial.field-0-is at c.in-Ok-Partial.ensures.partial in
    let may = rw c.in-Ok-Partial.field-0-is at c.in-Ok-Partial.ensures.unfinished in
    sym (reads_partial _ none may)

pub returns-in-Err : goal.returns-in-Err
returns-in-Err c = sym (reads_never _ c.in-Err.ensures.invalid)
