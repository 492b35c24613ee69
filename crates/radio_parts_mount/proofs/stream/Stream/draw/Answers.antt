use Rattle.std.proofs.Common.{Err, ◌≤◌, ap, sym, subst, ◌∙◌, arith}
use Rattle.radio_parts_mount.proofs.Words.{first_start, WholeStream, end_of}
use Rattle.radio_parts_mount.proofs.KeptQueues.{stream_first}
use Rattle.radio_parts_mount.proofs.stream.Stream.draw.Goals as goal

pub unreachable-requires : goal.unreachable-requires
unreachable-requires c =
    let before = c.draw.ensures.trimmed.0 (c.in-Err-Trimmed.is ∙ ap Err c.in-Err-Trimmed.field-0-is) in
    let kept = subst (λ (s : WholeStream). first_start (end_of s) s.starts ≤ c.args.place) (sym c.self.view_is) c.requires in
    absurd (omega (arith, before, kept, stream_first c.self.inside.queue))
