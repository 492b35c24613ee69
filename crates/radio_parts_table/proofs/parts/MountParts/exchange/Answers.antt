use Rattle.std.proofs.Common.{ℕ, false, List, ap, sym, subst, ◌∙◌}
use Rattle.radio_parts_table.proofs.Words.{find, option_map_or, update_first, IsExchanged, IsUnfit, can_replace, left_for, put_for, PartSwap, ByMount, by_mount_of, is_part_of, MountPart}
use Rattle.radio_parts_table.proofs.ExchangeLemmas.{put_in_place, was_not_put, was_put, was_unfit, whole_after}
use Rattle.radio_parts_table.proofs.PartLemmas.{AreWhole}
use Rattle.radio_parts_table.proofs.parts.MountParts.exchange.Goals as goal

-- the row that is exchanged is that of the part's mount
abbrev in_row : MountPart → List MountPart → List ℕ → List MountPart
in_row part parts mount = update_first (is_part_of mount) (put_for part) parts

abbrev left : MountPart → MountPart → PartSwap
left part row = record { part = left_for part row; is_put = can_replace part row }

abbrev taken_by : MountPart → List MountPart → List ℕ → PartSwap
taken_by part parts mount = option_map_or (left part) (find (is_part_of mount) parts) (record { part = part; is_put = false })

pub invariant_of-self : goal.invariant_of-self
invariant_of-self c =
    subst (AreWhole c.max-self-inside.result) (sym (c.swap.ensures.row ∙ ap (in_row c.args.part c.self.inside.parts) c.key-mount.ensures))
    (subst (λ n. AreWhole n (put_in_place c.args.part c.self.inside.parts)) (sym c.max-self-inside.ensures)
    (whole_after c.args.part c.self.inside.furthest c.stream_end.result c.self.inside.parts c.stream_end.ensures c.self.invariant))

pub returns-then-not-is_put-clause-err : goal.returns-then-not-is_put-clause-err
returns-then-not-is_put-clause-err c =
    ap by_mount_of (c.swap.ensures.row ∙ ap (in_row c.args.part c.self.inside.parts) c.key-mount.ensures ∙ (was_not_put c.args.part c.self.inside.parts c.swap.new.swap (c.swap.ensures.taken ∙ ap (taken_by c.args.part c.self.inside.parts) c.key-mount.ensures) c.if-not-is_put.true).0) ∙ c.self.view_is

pub returns-then-not-is_put-clause-unfit : goal.returns-then-not-is_put-clause-unfit
returns-then-not-is_put-clause-unfit c =
    subst (λ (parts : ByMount). IsUnfit c.args.part parts.live) c.self.view_is
    (was_unfit c.args.part c.self.inside.furthest c.self.inside.parts c.swap.new.swap c.self.invariant c.len.ensures.rising
    (c.swap.ensures.taken ∙ ap (taken_by c.args.part c.self.inside.parts) c.key-mount.ensures) c.if-not-is_put.true)

pub invariant_of-self-2 : goal.invariant_of-self-2
invariant_of-self-2 c =
    subst (AreWhole c.max-self-inside.result) (sym (c.swap.ensures.row ∙ ap (in_row c.args.part c.self.inside.parts) c.key-mount.ensures))
    (subst (λ n. AreWhole n (put_in_place c.args.part c.self.inside.parts)) (sym c.max-self-inside.ensures)
    (whole_after c.args.part c.self.inside.furthest c.stream_end.result c.self.inside.parts c.stream_end.ensures c.self.invariant))

pub returns-clause-ok : goal.returns-clause-ok
returns-clause-ok c =
    subst (λ (parts : ByMount). IsExchanged c.args.part c.swap.new.swap.part parts (by_mount_of c.swap.new.self)) c.self.view_is
    (subst (λ (later : List MountPart). IsExchanged c.args.part c.swap.new.swap.part (by_mount_of c.self.inside.parts) (by_mount_of later)) (sym (c.swap.ensures.row ∙ ap (in_row c.args.part c.self.inside.parts) c.key-mount.ensures))
    (was_put c.args.part c.self.inside.furthest c.self.inside.parts c.swap.new.swap c.self.invariant c.len.ensures.rising (c.swap.ensures.taken ∙ ap (taken_by c.args.part c.self.inside.parts) c.key-mount.ensures) c.if-not-is_put.false))
