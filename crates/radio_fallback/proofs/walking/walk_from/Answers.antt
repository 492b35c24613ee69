use Rattle.std.proofs.Common.{ap, sym, ◌∙◌}
use Rattle.radio_fallback.proofs.Words.{option_copied, landing_here, landing_at, onward, stop_of, walk}
use Rattle.radio_fallback.proofs.WalkLaws.{landing_is}
use Rattle.radio_fallback.proofs.walking.walk_from.Goals as goal
use Rattle.radio_fallback.proofs.walking.walk_from.Goals.{in-Some, in-None}

pub returns-clause-landing : goal.returns-clause-landing
returns-clause-landing g c =
    let sight = g.V.View.sight c.args.view.now in
    let seats = c.args.seats.now.seats in
    let pair = option_copied c.args.pair in
    let whole = landing_is sight seats pair c.args.mount.now in
    elim c.match-next_mount.branch [
      | in-Some w ↦
          w.landing-is ∙ w.walk-landing.ensures
          ∙ sym (whole ∙ ap (onward (walk 9 sight seats pair) (landing_here sight seats pair c.args.mount.now)) (sym c.next_mount.ensures ∙ w.in-Some.is))
      | in-None w ↦
          w.landing-is ∙ w.landed-landing.ensures ∙ ap (landing_at c.args.mount.now) (w.stop.ensures ∙ ap stop_of c.found_at-first.ensures)
          ∙ sym (whole ∙ ap (onward (walk 9 sight seats pair) (landing_here sight seats pair c.args.mount.now)) (sym c.next_mount.ensures ∙ w.in-None.is))
    ]
