use Rattle.std.proofs.Common.{◌≡◌, Some, None, ap, sym, ◌∙◌}
use Rattle.radio_parts_table.proofs.Words.{find, option_copied, session_of, ByMount, is_part_of}
use Rattle.radio_parts_table.proofs.LiveLemmas.{session_found, its}
use Rattle.radio_parts_table.proofs.parts.MountParts.session.Goals as goal

pub returns-in_default : goal.returns-in_default
returns-in_default c =
    let mount = c.args.mount.now in
    let none : find (is_part_of mount) c.self.inside.parts ≡ None = sym c.get.ensures ∙ ap option_copied c.in_default.is in
    sym (ap (λ (parts : ByMount). session_of parts.live mount) (sym c.self.view_is)
    ∙ session_found mount c.self.inside.parts c.self.invariant.1 c.len.ensures.rising ∙ ap (its mount) none)

pub returns : goal.returns
returns c =
    let mount = c.args.mount.now in
    let found : find (is_part_of mount) c.self.inside.parts ≡ Some c.in-Some.part.now = sym c.get.ensures ∙ ap option_copied c.in-Some.is in
    c.session.ensures
    ∙ sym (ap (λ (parts : ByMount). session_of parts.live mount) (sym c.self.view_is)
    ∙ session_found mount c.self.inside.parts c.self.invariant.1 c.len.ensures.rising ∙ ap (its mount) found)
