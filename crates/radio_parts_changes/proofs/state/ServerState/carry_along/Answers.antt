use Rattle.std.proofs.Common.{ap, sym, subst, ◌∙◌, arith}
use Rattle.radio_parts_changes.proofs.Words.{Listening, carried, Sight, with_ends, heard_alike, same_sight, station_state, AreLive, sight_in, World, world, ends_in, carried_along, counts_along}
use Rattle.radio_parts_changes.proofs.PreparedSeats.{as_many_carried, heard_prepared, seats_changed, some_listen}
use Rattle.radio_parts_changes.proofs.state.ServerState.carry_along.Goals as goal

pub carry_along-requires : goal.carry_along-requires
carry_along-requires c = λ mount heard.
    let registry = c.self.inside.registry in
    let before = c.self.inside.listeners in
    heard_prepared (station_state registry before.live) before mount
    (some_listen before.seats c.len.result c.len.ensures c.if-len-eq0.false) c.self.invariant.0.0 c.self.invariant.0.1
    (sym (heard_alike registry before.live c.self.invariant.1 mount) ∙ heard)

pub returns-clause-state : goal.returns-clause-state
returns-clause-state c =
    let registry = c.self.inside.registry in
    let before = c.self.inside.listeners in
    let move = c.args.moving.now in
    ap (λ (l : Listening). world (station_state registry l.live) l.seats) c.carry_along.ensures.seats
    ∙ ap (λ (sight : Sight). world (station_state registry before.live) (carried sight move before.seats).seats) (same_sight registry before.live c.self.invariant.1)
    ∙ ap (λ (w : World). carried_along w move) c.self.view_is

pub returns-clause-counts : goal.returns-clause-counts
returns-clause-counts c =
    let registry = c.self.inside.registry in
    let before = c.self.inside.listeners in
    let move = c.args.moving.now in
    c.carry_along.ensures.counts
    ∙ ap (λ (sight : Sight). (carried sight move before.seats).counts) (same_sight registry before.live c.self.invariant.1)
    ∙ ap (λ (w : World). counts_along w move) c.self.view_is

pub invariant_of-self : goal.invariant_of-self
invariant_of-self c =
    let sight = with_ends (sight_in c.self.inside.registry) (ends_in c.self.inside.listeners.live) in
    let before = c.self.inside.listeners in
    let seats = (carried sight c.args.moving.now before.seats).seats in
    let many = as_many_carried sight c.args.moving.now before.seats in (
      seats_changed c.self.inside.registry.settings before c.carry_along.new.self seats c.carry_along.ensures.seats (omega (arith, many)) c.self.invariant.0,
      subst (λ (l : Listening). AreLive c.self.inside.registry.live l.live) (sym c.carry_along.ensures.seats) c.self.invariant.1,
    )
