use Rattle.std.proofs.Common.{◌≡◌, Option, refl, ap, ◌∙◌}
use Rattle.radio_parts_table.proofs.Words.{is_some, ByMount, has_part}
use Rattle.radio_parts_table.proofs.PartLemmas.{has_its_part}
use Rattle.radio_parts_table.proofs.parts.MountParts.has_part.Goals as goal

still : {A B : Type 0} (f : A → B) (found : Option A) → is_some found ≡ is_some (Rattle.std.specs.Option.option_map f found)
still f Rattle.std.proofs.Common.None = refl
still f (Rattle.std.proofs.Common.Some x) = refl

pub returns : goal.returns
returns c =
    c.is_some.ensures ∙ still _ c.get.result ∙ ap is_some c.get.ensures
    ∙ has_its_part c.args.mount.now c.self.inside.parts ∙ ap (λ (parts : ByMount). has_part parts.attached c.args.mount.now) c.self.view_is
