use Rattle.std.proofs.Common.{◌==◌, refl}
use Rattle.std.specs.Io.Buffered.{reader_buffer, reader_capacity, reader_inner, reader_remaining}
use Rattle.radio_script.proofs.ByteLemmas.{first_consumed}
use Rattle.radio_script.proofs.buffered_tally.BufferedTallyCountedRead.take_held.Goals as goal

pub returns : goal.returns
returns g c =
    let reader = c.args.self.now.reader in
    let now = reader_remaining g.R.Read.remaining c.consume.new.self in (
      first_consumed (reader_capacity reader == 0) (reader_buffer reader) (g.R.Read.remaining (reader_inner reader)) now c.in-Some.byte
          c.in-Some.ensures.0 c.in-Some.ensures.1 c.consume.ensures.bytes,
      c.saturating_add-self.ensures,
      refl,
    )
