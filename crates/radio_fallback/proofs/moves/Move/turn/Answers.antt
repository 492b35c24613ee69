use Rattle.std.proofs.Common.{ap, sym, ◌∙◌}
use Rattle.radio_fallback.proofs.Words.{option_copied, others_of, walks_on, is_asked, turn_by}
use Rattle.radio_fallback.proofs.WalkLaws.{walks_ten}
use Rattle.radio_fallback.proofs.moves.Move.turn.Goals as goal

pub returns-in-Ended : goal.returns-in-Ended
returns-in-Ended g c =
    let sight = g.V.View.sight c.args.walker.now.view.now in
    let others = others_of c.args.walker.now.seats.now.seats c.args.walker.now.own in
    let pair = option_copied c.args.pair in
    c.walks_on.ensures ∙ ap walks_on (c.walk.ensures ∙ walks_ten sight others pair c.in-Ended.mount)
    ∙ sym (ap (turn_by sight others pair) c.in-Ended.is)

pub returns-in-To : goal.returns-in-To
returns-in-To g c =
    let sight = g.V.View.sight c.args.walker.now.view.now in
    let others = others_of c.args.walker.now.seats.now.seats c.args.walker.now.own in
    let pair = option_copied c.args.pair in
    c.is_asked-in-To.ensures ∙ ap is_asked c.landing_here-in-To.ensures ∙ sym (ap (turn_by sight others pair) c.in-To.is)
