use Rattle.std.proofs.Common.{◌≡◌, ◌∙◌, ap, sym, arith}
use Rattle.radio_source.specs.ChunkLine.{chunk_line_in}
use Rattle.radio_source.specs.Place.{after_line}
use Rattle.radio_source.specs.Position.{place_at_stage}
use Rattle.radio_source.specs.declared.chunk_line.LineReading.TheVariants.{Unfinished}
use Rattle.radio_source.proofs.PlaceLemmas.{after_line_unfinished, after_line_too_long, after_line_refused, after_last_line, after_chunk_line}
use Rattle.radio_source.proofs.position.pass_line_byte.Goals as goal
use Rattle.radio_source.proofs.position.pass_line_byte.Goals.{in-Whole-eq0, in-Whole, in-Unfinished-2, in-Refused}

pub returns-in-Unfinished-clause-place : goal.returns-in-Unfinished-clause-place
returns-in-Unfinished-clause-place c =
    let line = c.push.new.self.items in
    let reading : chunk_line_in line ≡ Unfinished = ap chunk_line_in (sym c.as_slice.ensures.value) ∙ (sym c.read_chunk_line.ensures ∙ c.in-Unfinished.is) in
    sym (after_line_unfinished line reading (omega (arith, c.if-len-lt-MAX_CHUNK_LINE.true, c.len.ensures.value))) ∙ ap after_line c.push.ensures.items

pub returns-clause-place : goal.returns-clause-place
returns-clause-place c =
    let line = c.push.new.self.items in
    let read : chunk_line_in line ≡ c.read_chunk_line.result = ap chunk_line_in (sym c.as_slice.ensures.value) ∙ sym c.read_chunk_line.ensures in
    let empty = c.clear.new.self.items in
    elim c.match-read_chunk_line.branch [
      | in-Whole-eq0 w ↦
          ap (λ s. place_at_stage s empty) w.stage-is
          ∙ (sym (after_last_line line _ (read ∙ w.in-Whole-eq0.is) w.in-Whole-eq0.field-0-test) ∙ ap after_line c.push.ensures.items)
      | in-Whole w ↦
          ap (λ s. place_at_stage s empty) w.stage-is
          ∙ (sym (after_chunk_line line _ (read ∙ w.in-Whole.is) w.in-Whole.size-test.1) ∙ ap after_line c.push.ensures.items)
      | in-Unfinished-2 w ↦
          ap (λ s. place_at_stage s empty) w.stage-is
          ∙ (sym (after_line_too_long line (read ∙ w.in-Unfinished.is) (omega (arith, w.if-len-lt-MAX_CHUNK_LINE.false, w.len.ensures.value)))
          ∙ ap after_line c.push.ensures.items)
      | in-Refused w ↦
          ap (λ s. place_at_stage s empty) w.stage-is
          ∙ (sym (after_line_refused line (read ∙ w.in-Refused.is)) ∙ ap after_line c.push.ensures.items)
    ]
