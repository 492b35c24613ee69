use Rattle.std.proofs.Common.{◌<◌}
use Rattle.radio_icy.proofs.UnweavingLemmas.{begun_kept}
use Rattle.radio_icy.proofs.unweaver.Unweaver.feed_sound.Goals as goal

pub invariant_of-self : goal.invariant_of-self
invariant_of-self c = begun_kept (0 < c.in_ok-left.field-0.left) (λ v. v.items) _ _ c.in_ok-block.ensures c.in_ok-left.ensures.begun
