use Rattle.std.proofs.Common.{◌≡◌, [], Option, None, Some, List, refl, ap, sym, subst, ◌∙◌}
use Rattle.radio_parts_table.proofs.Words.{find, filter, option_map, option_map_or, lags, update_first, MountPart, ByMount, by_mount_of, MountAttachments, attached_to, is_part_of, is_of_mount, attachments_in}
use Rattle.radio_parts_table.proofs.Words.{with_attached, without_lagging}
use Rattle.radio_attachments.proofs.Bounds.{none_pass}
use Rattle.radio_parts_table.specs.declared.attached.TakesLagging.{TakesLagging as TakesOf}
use Rattle.radio_parts_table.proofs.LaggingLemmas.{nobody_lags}
use Rattle.radio_parts_table.proofs.PartLemmas.{AreWhole}
use Rattle.radio_parts_table.proofs.PartAttachments.{attachments_shown, attachments_whole, found_through}
use Rattle.radio_parts_table.proofs.parts.MountParts.take_lagging.Goals as goal

abbrev gives : TakesOf → MountPart → TakesOf
gives takes part = record { end = takes.end; queue = takes.queue; lagging = filter (lags takes.end takes.queue) part.attachments }

taken : (takes : TakesOf) (found : Option MountPart) → takes.lagging ≡ []
    → (option_map_or (gives takes) found takes).lagging ≡ filter (lags takes.end takes.queue) (attachments_in (option_map attached_to found))
taken takes None none = none
taken takes (Some part) none = refl

pub invariant_of-self : goal.invariant_of-self
invariant_of-self c =
    subst (AreWhole c.self.inside.furthest) (sym c.swap.ensures.row)
    (attachments_whole c.args.mount.now (without_lagging c.args.end c.args.queue) c.self.inside.furthest c.self.inside.parts c.self.invariant)

pub returns-then-not-may_lag-clause-rest : goal.returns-then-not-may_lag-clause-rest
returns-then-not-may_lag-clause-rest c =
    ap (λ (rows : List MountAttachments). with_attached rows c.args.self.now)
    (nobody_lags c.args.end c.args.queue c.args.mount.now c.args.self.now.attached (c.may_lag.ensures.none c.if-not-may_lag.true))

pub returns-then-not-may_lag-clause-lagging : goal.returns-then-not-may_lag-clause-lagging
returns-then-not-may_lag-clause-lagging c =
    c.new.ensures
    ∙ sym (none_pass (lags c.args.end c.args.queue) (attachments_in (find (is_of_mount c.args.mount.now) c.args.self.now.attached))
    (c.may_lag.ensures.none c.if-not-may_lag.true))

pub returns-clause-rest : goal.returns-clause-rest
returns-clause-rest c =
    ap by_mount_of c.swap.ensures.row ∙ attachments_shown c.args.mount.now (without_lagging c.args.end c.args.queue) (λ part. refl) c.self.inside.parts
    ∙ ap (λ (parts : ByMount). with_attached (update_first (is_of_mount c.args.mount.now) (without_lagging c.args.end c.args.queue) parts.attached) parts) c.self.view_is

pub returns-clause-lagging : goal.returns-clause-lagging
returns-clause-lagging c =
    let mount = c.args.mount.now in
    let first : TakesOf = record { end = c.args.end; queue = c.args.queue; lagging = c.new-2.result } in
    ap (λ (takes : TakesOf). takes.lagging) c.swap.ensures.taken
    ∙ taken first (find (is_part_of mount) c.self.inside.parts) c.new-2.ensures
    ∙ sym (found_through mount (λ (found : Option MountAttachments). filter (lags c.args.end c.args.queue) (attachments_in found)) c.self.inside.parts
    (find (is_part_of mount) c.self.inside.parts) refl)
    ∙ ap (λ (parts : ByMount). filter (lags c.args.end c.args.queue) (attachments_in (find (is_of_mount mount) parts.attached))) c.self.view_is
