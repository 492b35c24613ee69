use Rattle.std.proofs.Common.{ap, sym, ◌∙◌}
use Rattle.radio_parts_table.proofs.Words.{option_copied, found_heard, landing_heard, places_in, Listening}
use Rattle.radio_fallback.specs.Walk.{found_at, landing}
use Rattle.radio_parts_table.proofs.listeners.Listeners.walk_from.Goals as goal

pub returns-clause-first : goal.returns-clause-first
returns-clause-first g c =
    let i = c.self.inside in
    let sight = g.V.View.sight c.args.view.now in
    let pair = option_copied c.args.pair in
    c.walk_from.ensures.first ∙ sym (found_heard (places_in i.parts.attached) sight i.seats.seats c.args.mount.now pair)
    ∙ ap (λ (b : Listening). found_at sight b.seats c.args.mount.now pair) c.self.view_is

pub returns-clause-landing : goal.returns-clause-landing
returns-clause-landing g c =
    let i = c.self.inside in
    let sight = g.V.View.sight c.args.view.now in
    let pair = option_copied c.args.pair in
    c.walk_from.ensures.landing ∙ sym (landing_heard (places_in i.parts.attached) sight i.seats.seats c.args.mount.now pair)
    ∙ ap (λ (b : Listening). landing sight b.seats pair c.args.mount.now) c.self.view_is
