use Rattle.std.proofs.Common.{◌≡◌, Some, None, ◌||◌, ◌&&◌, ◌==◌, sym, ap, ◌∙◌}
use Rattle.radio_seats.proofs.Words.{bytes_eq, has_number, entry_of, is_kept}
use Rattle.radio_seats.proofs.UserTrees.{kept_changed, or_stays}
use Rattle.radio_seats.proofs.users.UserIndex.keep_new.Goals as goal

pub returns-clause-ok : goal.returns-clause-ok
returns-clause-ok c = λ other k.
    let key = c.in_ok-key.key in
    let seats = c.args.self.now.seats in
    let none : entry_of seats key.items ≡ None = ap (entry_of seats) c.in_ok-key.ensures.items ∙ c.requires in
    kept_changed key.items seats c.insert.new.self (Some c.in_ok-alone.field-0) c.in_ok-insert.ensures.updates
    (λ b t. b || t) or_stays c.args.id
    (λ n. c.in_ok-alone.ensures n ∙ ap (λ entry. has_number entry n || (c.args.id == n)) (sym none)) other k
    ∙ ap (λ user. is_kept seats other k || ((c.args.id == k) && bytes_eq user other)) c.in_ok-key.ensures.items
