use Rattle.std.proofs.Common.{ap, sym, ◌∙◌}
use Rattle.radio_parts_mount.proofs.Words.{first_start, WholeStream, end_of}
use Rattle.radio_parts_mount.proofs.KeptQueues.{stream_first}
use Rattle.radio_parts_mount.proofs.stream.Stream.first.Goals as goal

pub returns : goal.returns
returns c =
    c.offset.ensures ∙ sym (stream_first c.self.inside.queue) ∙ ap (λ (s : WholeStream). first_start (end_of s) s.starts) c.self.view_is
