use Rattle.std.proofs.Common.{ap, ◌∙◌}
use Rattle.radio_parts_table.proofs.Words.{kept_fed, longer_kept, end_in, session_of, ByMount, by_mount_of, with_live}
use Rattle.radio_parts_table.proofs.PartLemmas.{fed_whole, changed_shown}
use Rattle.radio_parts_table.proofs.parts.MountParts.receive.Goals as goal

pub invariant_of-self-2 : goal.invariant_of-self-2
invariant_of-self-2 c =
    rw (c.max-self-inside.ensures, c.in_ok-end.ensures.ok) (fed_whole c.args.mount.now c.self.inside.furthest c.self.inside.parts
    c.in_ok-end.ensures.rising c.self.invariant c.args.limit c.args.block.now c.args.moment c.in_ok-end.end c.in_ok-end.ensures.end)

pub returns-clause-ok : goal.returns-clause-ok
returns-clause-ok c =
    ap by_mount_of c.in_ok-end.ensures.ok
    ∙ changed_shown c.args.mount.now c.self.inside.parts c.in_ok-end.ensures.rising c.self.invariant.1
    (longer_kept c.args.limit c.args.block.now c.args.moment)
    ∙ ap (λ (parts : ByMount). with_live (kept_fed c.args.limit parts.live c.args.mount.now c.args.block.now c.args.moment) parts) c.self.view_is

pub returns-clause-end : goal.returns-clause-end
returns-clause-end c =
    c.in_ok-end.ensures.end
    ∙ ap (λ (parts : ByMount). end_in (session_of (kept_fed c.args.limit parts.live c.args.mount.now c.args.block.now c.args.moment) c.args.mount.now)) c.self.view_is
