use Rattle.std.proofs.Common.{ap, sym, ◌∙◌}
use Rattle.radio_parts_station.proofs.Words.{option_copied, Sight, found_at, landing, ends_in, sight_of, walks_to, sight_in}
use Rattle.radio_fallback.proofs.EndLemmas.{landing_same}
use Rattle.radio_parts_station.specs.StationState.{StationState}
use Rattle.radio_parts_station.proofs.LiveMounts.{same_sight}
use Rattle.radio_parts_station.proofs.station.StationState.walk_from.Goals as goal

pub returns-clause-first : goal.returns-clause-first
returns-clause-first c =
    let registry = c.self.inside.registry.now in
    let live = c.self.inside.parts.now.live in
    let seats = c.args.seats.now.seats in
    let pair = option_copied c.args.pair in
    c.walk_from.ensures.first
    ∙ ap (λ (sight : Sight). found_at sight seats c.args.mount.now pair) (same_sight registry live c.self.invariant)
    ∙ ap (λ (station : StationState). found_at (sight_of station) seats c.args.mount.now pair) c.self.view_is

pub returns-clause-landing : goal.returns-clause-landing
returns-clause-landing c =
    let registry = c.self.inside.registry.now in
    let live = c.self.inside.parts.now.live in
    let seats = c.args.seats.now.seats in
    let pair = option_copied c.args.pair in
    c.walk_from.ensures.landing ∙ sym (landing_same (sight_in registry) (ends_in live) seats pair c.args.mount.now)
    ∙ ap (λ (sight : Sight). landing sight seats pair c.args.mount.now) (same_sight registry live c.self.invariant)
    ∙ ap (λ (station : StationState). walks_to station seats c.args.mount.now pair) c.self.view_is
