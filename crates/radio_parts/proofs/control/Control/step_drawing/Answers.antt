use Rattle.std.proofs.Common.{ℕ, Option, ap, sym, ◌∙◌, arith}
use Rattle.radio_parts.proofs.Words.{lent_seat, kept_changed, Advance, advanced_due, World, Outcome, comes_to, moves_to}
use Rattle.radio_parts.proofs.SeatedDraws.{drawn_so}
use Rattle.radio_parts.proofs.control.Control.step_drawing.Goals as goal

pub returns-in_default-place-clause-ok : goal.returns-in_default-place-clause-ok
returns-in_default-place-clause-ok c can =
    let w = c.args.self.now in
    let drawn = drawn_so w c.args.id c.args.room c.seats.result.now.seats (lent_seat c.in-Some.hearing.seat) (comes_to c.args.id c.in_ok-reply.field-0)
    c.seats.ensures.seats c.in-Some.ensures.0 can (λ kept. c.in_ok-reply.ensures kept) in
    ap (λ (place : Option ℕ). kept_changed w (moves_to c.args.id place)) (sym c.in_default-place.is) ∙ ap (λ (o : Outcome). kept_changed w o.change) (sym drawn)

pub returns-in_default-place-clause-told : goal.returns-in_default-place-clause-told
returns-in_default-place-clause-told c can =
    let w = c.args.self.now in
    let drawn = drawn_so w c.args.id c.args.room c.seats.result.now.seats (lent_seat c.in-Some.hearing.seat) (comes_to c.args.id c.in_ok-reply.field-0)
    c.seats.ensures.seats c.in-Some.ensures.0 can (λ kept. c.in_ok-reply.ensures kept) in
    ap (λ (o : Outcome). o.reply) (sym drawn)

pub invariant_of-self : goal.invariant_of-self
invariant_of-self c =
    rw c.advance_at.ensures (advanced_due c.self.inside.state c.args.id c.in-Some-place.place c.self.inside.due_from (omega arith) c.self.invariant)

pub returns-clause-ok : goal.returns-clause-ok
returns-clause-ok c can =
    let w = c.args.self.now in
    let drawn = drawn_so w c.args.id c.args.room c.seats.result.now.seats (lent_seat c.in-Some.hearing.seat) (comes_to c.args.id c.in_ok-reply.field-0)
    c.seats.ensures.seats c.in-Some.ensures.0 can (λ kept. c.in_ok-reply.ensures kept) in
    c.advance_at.ensures ∙ ap (λ (v : World). kept_changed v (Advance c.args.id c.in-Some-place.place)) c.self.view_is
    ∙ ap (λ (place : Option ℕ). kept_changed w (moves_to c.args.id place)) (sym c.in-Some-place.is) ∙ ap (λ (o : Outcome). kept_changed w o.change) (sym drawn)

pub returns-clause-told : goal.returns-clause-told
returns-clause-told c can =
    let w = c.args.self.now in
    let drawn = drawn_so w c.args.id c.args.room c.seats.result.now.seats (lent_seat c.in-Some.hearing.seat) (comes_to c.args.id c.in_ok-reply.field-0)
    c.seats.ensures.seats c.in-Some.ensures.0 can (λ kept. c.in_ok-reply.ensures kept) in
    ap (λ (o : Outcome). o.reply) (sym drawn)
