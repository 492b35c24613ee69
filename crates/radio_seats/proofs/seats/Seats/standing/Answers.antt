use Rattle.std.proofs.Common.{Some, ap, sym, ◌∙◌}
use Rattle.radio_seats.proofs.Words.{option_copied, option_map, SeatTable, name_in, named, named_state, listener_of}
use Rattle.radio_seats.specs.Lent.{standing_by, standing_in}
use Rattle.radio_seats.proofs.RowLemmas.{listener_shown}
use Rattle.radio_seats.proofs.seats.Seats.standing.Goals as goal

pub returns-in_default : goal.returns-in_default
returns-in_default c =
    let name = name_in c.self.inside.mounts.mounts in
    let rows = c.self.inside.rows in
    let found = ap (λ (b : SeatTable). listener_of b.seats c.args.id) (sym c.self.view_is) ∙ listener_shown name rows c.args.id
    ∙ ap (option_map (named name)) (sym c.get.ensures ∙ ap option_copied c.in_default.is) in
    sym (ap standing_in found)

pub returns-in-Seated : goal.returns-in-Seated
returns-in-Seated c =
    let name = name_in c.self.inside.mounts.mounts in
    let rows = c.self.inside.rows in
    let found = ap (λ (b : SeatTable). listener_of b.seats c.args.id) (sym c.self.view_is) ∙ listener_shown name rows c.args.id
    ∙ ap (option_map (named name)) (sym c.get.ensures ∙ ap option_copied c.in-Some.is) in
    sym (ap standing_in found ∙ ap (λ state. Some (standing_by (named_state name state))) c.in-Seated.is)

pub returns-in-Ended : goal.returns-in-Ended
returns-in-Ended c =
    let name = name_in c.self.inside.mounts.mounts in
    let rows = c.self.inside.rows in
    let found = ap (λ (b : SeatTable). listener_of b.seats c.args.id) (sym c.self.view_is) ∙ listener_shown name rows c.args.id
    ∙ ap (option_map (named name)) (sym c.get.ensures ∙ ap option_copied c.in-Some.is) in
    sym (ap standing_in found ∙ ap (λ state. Some (standing_by (named_state name state))) c.in-Ended.is)
