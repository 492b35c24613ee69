use Rattle.std.proofs.Common.{refl, ap, sym, subst, ◌∙◌}
use Rattle.radio_parts_table.proofs.Words.{IsStrictlySortedBy, nat_cmp, numbers_heard, places_in, lags_behind, Lagged, AreByNumber, Listening}
use Rattle.radio_parts_table.proofs.LaggingTurns.{fewer_turns, turns_begin, turns_end, turns_go_on}
use Rattle.radio_parts_table.proofs.ListenersLemmas.{same_listening}
use Rattle.radio_parts_table.proofs.listeners.Listeners.end_lagging_sitters.Goals as goal

pub listeners-init : goal.listeners-init
listeners-init c =
    let i = c.self.inside in
    let rising : AreByNumber c.args.self.now.seats =
    subst (λ (b : Listening). AreByNumber b.seats) c.self.view_is
    (subst (IsStrictlySortedBy nat_cmp) (sym (numbers_heard (places_in i.parts.attached) i.seats.seats)) c.len.ensures.rising) in
    (refl, turns_begin (lags_behind c.args.mount.now c.args.end c.args.queue) Lagged c.args.self.now.seats rising, refl)

pub listeners-smaller : goal.listeners-smaller
listeners-smaller c =
    let p = lags_behind c.args.mount.now c.args.end c.args.queue in
    fewer_turns p Lagged c.listeners.self.seats c.end_if_lagging.new.self.seats c.listeners.last c.in-Some.id
    (ap (λ (b : Listening). b.seats) c.end_if_lagging.ensures) c.next.ensures.rising (sym c.in-Some.is ∙ c.next.ensures.next)

pub listeners-preserved : goal.listeners-preserved
listeners-preserved c =
    let p = lags_behind c.args.mount.now c.args.end c.args.queue in (
      ap (λ (b : Listening). b.prepared) c.end_if_lagging.ensures ∙ c.listeners.invariant.0,
      turns_go_on p Lagged c.listeners.self.seats c.end_if_lagging.new.self.seats c.listeners.last c.in-Some.id
          (ap (λ (b : Listening). b.seats) c.end_if_lagging.ensures) c.next.ensures.rising (sym c.in-Some.is ∙ c.next.ensures.next) ∙ c.listeners.invariant.1,
      ap (λ (b : Listening). b.live) c.end_if_lagging.ensures ∙ c.listeners.invariant.2,
    )

pub returns : goal.returns
returns c =
    let p = lags_behind c.args.mount.now c.args.end c.args.queue in
    same_listening c.listeners.invariant.0
    (sym (turns_end p Lagged c.listeners.self.seats c.listeners.last (sym c.in_default.is ∙ c.next.ensures.next)) ∙ c.listeners.invariant.1)
    c.listeners.invariant.2
