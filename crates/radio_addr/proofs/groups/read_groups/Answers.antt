use Rattle.std.proofs.Common.{arith, ap, ◌∙◌, sym}
use Rattle.std.specs.Option.{option_and_then}
use Rattle.radio_addr.specs.Counts.{count_all}
use Rattle.radio_addr.proofs.CountsLemmas.{field_more, field_none, field_full, groups_at_end}
use Rattle.radio_addr.proofs.groups.read_groups.Goals as goal

pub returns-in_err-group : goal.returns-in_err-group
returns-in_err-group c =
    rw c.from_residual.ensures
    (field_none c.args.with_quad c.groups.rest.now c.in-Some.field.now c.in-Some.later.now
    (c.groups.groups.count, c.groups.groups.number) _ c.in-Some.ensures.fields
    (c.fields.ensures.some 58 c.in-Some.later.now) c.in_err-group.ensures.value c.groups.invariant)

pub returns-in_err-groups : goal.returns-in_err-groups
returns-in_err-groups c =
    rw c.from_residual-in_err-groups.ensures
    (field_full c.args.with_quad c.groups.rest.now c.in-Some.field.now c.in-Some.later.now
    (c.groups.groups.count, c.groups.groups.number) c.in_ok-group.group _ c.in-Some.ensures.fields
    (c.fields.ensures.some 58 c.in-Some.later.now) c.in_ok-group.ensures.value c.in_err-groups.ensures c.groups.invariant)

pub groups-smaller : goal.groups-smaller
groups-smaller c = omega (arith, c.in-Some.ensures.sizes)

pub groups-preserved : goal.groups-preserved
groups-preserved c =
    field_more c.args.with_quad c.groups.rest.now c.in-Some.field.now c.in-Some.later.now (c.groups.groups.count, c.groups.groups.number)
    (c.in_ok-groups.groups.count, c.in_ok-groups.groups.number) c.in_ok-group.group _ c.in-Some.ensures.fields
    (c.fields.ensures.some 58 c.in-Some.later.now) c.in_ok-group.ensures.value c.in_ok-groups.ensures c.groups.invariant

pub returns : goal.returns
returns c =
    c.with_last.ensures
    ∙ (ap (option_and_then (count_all (c.groups.groups.count, c.groups.groups.number)))
    (sym (groups_at_end c.args.with_quad c.groups.rest.now c.in_default.ensures.fields)) ∙ c.groups.invariant)
