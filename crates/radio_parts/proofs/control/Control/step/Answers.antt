use Rattle.std.proofs.Common.{◌≡◌, ◌∙◌, OnOk, IfOk, refl, ap, sym, subst}
use Rattle.radio_parts.proofs.Words.{Event, Reply, Noted, counted, kept_changed, due_committed, World, Outcome, CanStep, common_after, common_of, draws, planned, with_counts}
use Rattle.radio_parts.proofs.CommonLemmas.{common_clocked, common_worked_out}
use Rattle.radio_parts.proofs.PlannedLemmas.{clock_planned, draw_planned, draw_untold}
use Rattle.radio_parts.proofs.SmallOutcomes.{small_can, small_change}
use Rattle.radio_parts.proofs.control.Control.step.Goals as goal

pub returns-in-Draw-clause-ok : goal.returns-in-Draw-clause-ok
returns-in-Draw-clause-ok c can =
    let w = c.args.self.now in
    subst (λ (o : Outcome). OnOk c.step_drawing.result (c.step_drawing.new.self ≡ kept_changed w o.change))
    (sym (ap (planned w) c.in-Draw.is ∙ draw_planned w c.in-Draw.id c.in-Draw.room)) (c.step_drawing.ensures.ok (subst (CanStep w) c.in-Draw.is can))

pub returns-in-Draw-clause-told : goal.returns-in-Draw-clause-told
returns-in-Draw-clause-told c can =
    let w = c.args.self.now in
    let o = draws w c.in-Draw.id c.in-Draw.room in
    subst (λ (o : Outcome). IfOk c.step_drawing.result (λ reply. reply ≡ with_counts o.reply (counted w o.change)))
    (sym (ap (planned w) c.in-Draw.is ∙ draw_planned w c.in-Draw.id c.in-Draw.room))
    (subst (λ (told : Reply). IfOk c.step_drawing.result (λ reply. reply ≡ told))
    (sym (draw_untold w c.in-Draw.id c.in-Draw.room (counted w o.change))) (c.step_drawing.ensures.told (subst (CanStep w) c.in-Draw.is can)))

pub returns-in-Clock-clause-ok : goal.returns-in-Clock-clause-ok
returns-in-Clock-clause-ok c can =
    let w = c.args.self.now in
    c.step_clock.ensures ∙ ap (λ (o : Outcome). kept_changed w o.change) (sym (ap (planned w) c.in-Clock.is ∙ clock_planned w c.in-Clock.ms))

pub returns-in-Clock-clause-told : goal.returns-in-Clock-clause-told
returns-in-Clock-clause-told c can =
    let w = c.args.self.now in
    subst (λ (o : Outcome). Noted ≡ with_counts o.reply (counted w o.change)) (sym (ap (planned w) c.in-Clock.is ∙ clock_planned w c.in-Clock.ms)) refl

pub returns-in-Clock-clause-common : goal.returns-in-Clock-clause-common
returns-in-Clock-clause-common c =
    let w = c.args.self.now in
    ap common_of c.step_clock.ensures ∙ common_clocked w c.in-Clock.ms ∙ ap (λ (event : Event). common_after (common_of w) event Noted) (sym c.in-Clock.is)

pub returns-in-Ok-clause-ok : goal.returns-in-Ok-clause-ok
returns-in-Ok-clause-ok c can =
    let w = c.args.self.now in
    let change = c.in_ok-reply-in-Arrive.field-0.change in
    c.in-Ok.ensures.ok ∙ ap (λ (v : World). kept_changed v change) c.self.view_is
    ∙ ap (λ (o : Outcome). kept_changed w o.change) (c.in_ok-reply-in-Arrive.ensures.value can)

pub returns-in-Ok-clause-told : goal.returns-in-Ok-clause-told
returns-in-Ok-clause-told c can =
    let w = c.args.self.now in
    let reply = c.in_ok-reply-in-Arrive.field-0.reply in
    let change = c.in_ok-reply-in-Arrive.field-0.change in
    c.with_counts.ensures ∙ ap (with_counts reply) (c.in-Ok.ensures.counts ∙ ap (λ (v : World). counted v change) c.self.view_is)
    ∙ ap (λ (o : Outcome). with_counts o.reply (counted w o.change)) (c.in_ok-reply-in-Arrive.ensures.value can)

pub returns-in-Ok-clause-common : goal.returns-in-Ok-clause-common
returns-in-Ok-clause-common c =
    let w = c.args.self.now in
    let o = c.in_ok-reply-in-Arrive.field-0 in
    let worked = c.in_ok-reply-in-Arrive.ensures in
    ap common_of (c.in-Ok.ensures.ok ∙ ap (λ (v : World). kept_changed v o.change) c.self.view_is)
    ∙ common_worked_out w c.args.event o c.in-Ok.counts worked.value worked.drawn
    ∙ ap (common_after (common_of w) c.args.event) (sym c.with_counts.ensures)

pub invariant_of-self-in-Arrive : goal.invariant_of-self-in-Arrive
invariant_of-self-in-Arrive c =
    rw (c.min-self-inside.ensures, c.due_by.ensures)
    (due_committed c.self.inside.state c.commit.new.self c.in_ok-reply-in-Arrive.field-0.change c.self.inside.due_from c.commit.result c.commit.ensures.ok
    c.commit.ensures.err c.self.invariant)

pub invariant_of-self : goal.invariant_of-self
invariant_of-self c =
    rw (c.min-self-inside.ensures, c.due_by.ensures)
    (due_committed c.self.inside.state c.commit.new.self c.in_ok-reply-in-Arrive.field-0.change c.self.inside.due_from c.commit.result c.commit.ensures.ok
    c.commit.ensures.err c.self.invariant)

pub returns-in_default-clause-err : goal.returns-in_default-clause-err
returns-in_default-clause-err c = c.in_default.ensures.err ∙ c.self.view_is

pub returns-in_default-clause-frees : goal.returns-in_default-clause-frees
returns-in_default-clause-frees c small =
    let w = c.args.self.now in
    let can = small_can w c.args.event small in
    c.in_default.ensures.frees (small_change w c.args.event c.in_ok-reply-in-Arrive.field-0 (c.in_ok-reply-in-Arrive.ensures.value can) small)
