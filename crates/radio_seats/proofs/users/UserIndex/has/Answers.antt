use Rattle.std.proofs.Common.{ℕ, sym, ap, ◌∙◌}
use Rattle.radio_seats.proofs.Words.{find, list_any, option_copied, is_row, numbers_in, is_other_in}
use Rattle.radio_seats.proofs.UserLemmas.{found_by_user}
use Rattle.radio_seats.proofs.users.UserIndex.has.Goals as goal

pub returns-in-Some : goal.returns-in-Some
returns-in-Some c =
    let asked = c.args.asked.now in
    let rows = c.args.rows.now in
    let asks = λ (id : ℕ). is_other_in asked.own asked.number asked.user.now (find (is_row id) rows) in
    c.has_one.ensures
    ∙ ap (λ entry. list_any asks (numbers_in entry)) (sym (ap option_copied c.in-Some.is) ∙ c.get.ensures.value)
    ∙ found_by_user c.args.self.now.seats rows asked.own asked.number asked.user.now c.requires c.len.ensures.rising

pub returns-in-None : goal.returns-in-None
returns-in-None c =
    let asked = c.args.asked.now in
    let rows = c.args.rows.now in
    let asks = λ (id : ℕ). is_other_in asked.own asked.number asked.user.now (find (is_row id) rows) in
    ap (λ entry. list_any asks (numbers_in entry)) (sym (ap option_copied c.in-None.is) ∙ c.get.ensures.value)
    ∙ found_by_user c.args.self.now.seats rows asked.own asked.number asked.user.now c.requires c.len.ensures.rising
