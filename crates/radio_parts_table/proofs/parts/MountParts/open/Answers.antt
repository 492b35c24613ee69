use Rattle.std.proofs.Common.{◌≡◌, ℕ, true, List, Some, ap, ◌∙◌}
use Rattle.radio_parts_table.proofs.Words.{update_first, with_session, ByMount, by_mount_of, has_part, attached_in, with_live, is_part_of, with_session_in}
use Rattle.radio_parts_table.proofs.PartLemmas.{begun_whole, begun_shown}
use Rattle.radio_parts_table.proofs.parts.MountParts.open.Goals as goal
use Rattle.radio_parts_table.proofs.parts.MountParts.open.Goals.{Joined-swap}

there : (c : Joined-swap) → has_part (attached_in c.self.inside.parts) c.args.session.mount ≡ true
there c = ap (λ (parts : ByMount). has_part parts.attached c.args.session.mount) c.self.view_is ∙ c.requires

swapped : (c : Joined-swap) → c.swap.new.self ≡ update_first (is_part_of c.args.session.mount) (with_session_in (Some c.args.session)) c.self.inside.parts
swapped c =
    c.swap.ensures.row
    ∙ ap (λ (name : List ℕ). update_first (is_part_of name) (with_session_in (Some c.args.session)) c.self.inside.parts)
    c.mount-mount.ensures

pub invariant_of-self : goal.invariant_of-self
invariant_of-self c =
    rw (c.max-self-inside.ensures, c.stream_end.ensures, swapped c)
    (begun_whole c.args.session c.self.inside.parts c.len.ensures.rising (there c) c.self.inside.furthest c.self.invariant)

pub returns : goal.returns
returns c =
    ap by_mount_of (swapped c)
    ∙ begun_shown c.args.session c.self.inside.parts c.len.ensures.rising (there c) c.self.invariant.1
    ∙ ap (λ (parts : ByMount). with_live (with_session parts.live c.args.session) parts) c.self.view_is
