use Rattle.std.proofs.Common.{Some, None, ap, sym, ◌∙◌}
use Rattle.radio_parts_table.proofs.Words.{option_copied}
use Rattle.radio_parts_table.proofs.PlaceLemmas.{place_seen}
use Rattle.radio_parts_table.proofs.parts.MountParts.place.Goals as goal

pub returns-in_default : goal.returns-in_default
returns-in_default c =
    sym (place_seen c.self.inside.parts c.args.self.now c.args.mount.now c.args.id None c.self.view_is (sym c.get.ensures ∙ ap option_copied c.in_default.is))

pub returns : goal.returns
returns c =
    c.place.ensures
    ∙ sym (place_seen c.self.inside.parts c.args.self.now c.args.mount.now c.args.id (Some c.in-Some.part.now) c.self.view_is
    (sym c.get.ensures ∙ ap option_copied c.in-Some.is))
