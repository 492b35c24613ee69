use Rattle.std.proofs.Common.{◌≡◌, ◌∙◌, List, refl, ap, sym, subst}
use Rattle.radio_parts.proofs.Words.{map, Event, Reply, Noted, Carried, counted, kept_changed, due_committed, World, Outcome, common_after, common_of, planned, with_counts}
use Rattle.radio_parts.specs.ControlSteps.{three_of}
use Rattle.radio_parts.proofs.CommonLemmas.{common_clocked, common_worked_out}
use Rattle.radio_parts.proofs.PlannedLemmas.{clock_planned}
use Rattle.radio_parts.proofs.SmallOutcomes.{small_can, small_change, small_reply}
use Rattle.radio_parts.proofs.control.Control.step3.Goals as goal

-- the replies, each with these for the number
abbrev all_with : Carried → List Reply → List Reply
all_with counts replies = map (λ reply. with_counts reply counts) replies

pub returns-in-Clock-clause-ok : goal.returns-in-Clock-clause-ok
returns-in-Clock-clause-ok c can =
    let w = c.args.self.now in
    c.step_clock.ensures ∙ ap (λ (o : Outcome). kept_changed w o.change) (sym (ap (planned w) c.in-Clock.is ∙ clock_planned w c.in-Clock.ms))

pub returns-in-Clock-clause-told : goal.returns-in-Clock-clause-told
returns-in-Clock-clause-told c can =
    let w = c.args.self.now in
    subst (λ (o : Outcome). three_of Noted ≡ three_of (with_counts o.reply (counted w o.change)))
    (sym (ap (planned w) c.in-Clock.is ∙ clock_planned w c.in-Clock.ms)) refl

pub returns-in-Clock-clause-common : goal.returns-in-Clock-clause-common
returns-in-Clock-clause-common c =
    let w = c.args.self.now in (
      Noted,
      refl,
      ap common_of c.step_clock.ensures ∙ common_clocked w c.in-Clock.ms ∙ ap (λ (event : Event). common_after (common_of w) event Noted) (sym c.in-Clock.is),
    )

pub returns-in_default-clause-frees : goal.returns-in_default-clause-frees
returns-in_default-clause-frees c small =
    let w = c.args.self.now in
    let can = small_can w c.args.event small in
    c.in_default.ensures.frees (small_reply w c.args.event c.in_ok-reply-in-Arrive.field-0 (c.in_ok-reply-in-Arrive.ensures.value can) small)

pub returns-in-Ok-commit-clause-ok : goal.returns-in-Ok-commit-clause-ok
returns-in-Ok-commit-clause-ok c can =
    let w = c.args.self.now in
    let change = c.in_ok-reply-in-Arrive.field-0.change in
    c.in-Ok-commit.ensures.ok ∙ ap (λ (v : World). kept_changed v change) c.self.view_is
    ∙ ap (λ (o : Outcome). kept_changed w o.change) (c.in_ok-reply-in-Arrive.ensures.value can)

pub returns-in-Ok-commit-clause-told : goal.returns-in-Ok-commit-clause-told
returns-in-Ok-commit-clause-told c can =
    let w = c.args.self.now in
    let o = c.in_ok-reply-in-Arrive.field-0 in
    c.all_with_counts.ensures ∙ ap (all_with c.in-Ok-commit.counts) c.in-Ok.ensures.value
    ∙ ap (λ (counts : Carried). three_of (with_counts o.reply counts)) (c.in-Ok-commit.ensures.counts ∙ ap (λ (v : World). counted v o.change) c.self.view_is)
    ∙ ap (λ (p : Outcome). three_of (with_counts p.reply (counted w p.change))) (c.in_ok-reply-in-Arrive.ensures.value can)

pub returns-in-Ok-commit-clause-common : goal.returns-in-Ok-commit-clause-common
returns-in-Ok-commit-clause-common c =
    let w = c.args.self.now in
    let o = c.in_ok-reply-in-Arrive.field-0 in
    let worked = c.in_ok-reply-in-Arrive.ensures in
    let counts = c.in-Ok-commit.counts in (
      with_counts o.reply counts,
      c.all_with_counts.ensures ∙ ap (all_with counts) c.in-Ok.ensures.value,
      ap common_of (c.in-Ok-commit.ensures.ok ∙ ap (λ (v : World). kept_changed v o.change) c.self.view_is)
          ∙ common_worked_out w c.args.event o counts worked.value worked.drawn,
    )

pub invariant_of-self-in-Arrive : goal.invariant_of-self-in-Arrive
invariant_of-self-in-Arrive c =
    rw (c.min-self-inside.ensures, c.due_by.ensures)
    (due_committed c.self.inside.state c.commit.new.self c.in_ok-reply-in-Arrive.field-0.change c.self.inside.due_from c.commit.result c.commit.ensures.ok
    c.commit.ensures.err c.self.invariant)

pub invariant_of-self : goal.invariant_of-self
invariant_of-self c =
    rw (c.min-self-inside.ensures, c.due_by.ensures)
    (due_committed c.self.inside.state c.commit.new.self c.in_ok-reply-in-Arrive.field-0.change c.self.inside.due_from c.commit.result c.commit.ensures.ok
    c.commit.ensures.err c.self.invariant)

pub returns-in_default-commit-clause-err : goal.returns-in_default-commit-clause-err
returns-in_default-commit-clause-err c = c.in_default-commit.ensures.err ∙ c.self.view_is

pub returns-in_default-commit-clause-frees : goal.returns-in_default-commit-clause-frees
returns-in_default-commit-clause-frees c small =
    let w = c.args.self.now in
    let can = small_can w c.args.event small in
    c.in_default-commit.ensures.frees (small_change w c.args.event c.in_ok-reply-in-Arrive.field-0 (c.in_ok-reply-in-Arrive.ensures.value can) small)
