use Rattle.std.proofs.Common.{◌≡◌, Some, None, ap, sym, ◌∙◌}
use Rattle.radio_parts_table.proofs.Words.{find, option_copied, session_of, ByMount, is_part_of}
use Rattle.radio_parts_table.proofs.LiveLemmas.{its, session_found}
use Rattle.radio_parts_table.proofs.PlaceLemmas.{place_seen}
use Rattle.radio_parts_table.proofs.parts.MountParts.place_and_session.Goals as goal

pub returns-in_default-clause-place : goal.returns-in_default-clause-place
returns-in_default-clause-place c =
    sym (place_seen c.self.inside.parts c.args.self.now c.args.mount.now c.args.id None c.self.view_is (sym c.get.ensures ∙ ap option_copied c.in_default.is))

pub returns-in_default-clause-session : goal.returns-in_default-clause-session
returns-in_default-clause-session c =
    let mount = c.args.mount.now in
    sym (ap (λ (parts : ByMount). session_of parts.live mount) (sym c.self.view_is)
    ∙ session_found mount c.self.inside.parts c.self.invariant.1 c.len.ensures.rising ∙ ap (its mount) (sym c.get.ensures ∙ ap option_copied c.in_default.is))

pub returns-clause-place : goal.returns-clause-place
returns-clause-place c =
    c.place.ensures
    ∙ sym (place_seen c.self.inside.parts c.args.self.now c.args.mount.now c.args.id (Some c.in-Some.part.now) c.self.view_is
    (sym c.get.ensures ∙ ap option_copied c.in-Some.is))

pub returns-clause-session : goal.returns-clause-session
returns-clause-session c =
    let mount = c.args.mount.now in
    let found : find (is_part_of mount) c.self.inside.parts ≡ Some c.in-Some.part.now = sym c.get.ensures ∙ ap option_copied c.in-Some.is in
    c.session.ensures
    ∙ sym (ap (λ (parts : ByMount). session_of parts.live mount) (sym c.self.view_is)
    ∙ session_found mount c.self.inside.parts c.self.invariant.1 c.len.ensures.rising ∙ ap (its mount) found)
