use Rattle.std.proofs.Common.{Some, None, ◌&&◌, ◌==◌, not, refl, sym, ap, ◌∙◌, rules}
use Rattle.radio_seats.proofs.Words.{is_at, nat_cmp, has_number}
use Rattle.radio_seats.proofs.UserTrees.{kept_changed, kept_same, and_not_stays, number_less, none_in_empty}
use Rattle.radio_seats.proofs.users.UserIndex.take.Goals as goal

pub returns-else-is_empty : goal.returns-else-is_empty
returns-else-is_empty c =
    let ids = c.remove.new.self in
    kept_changed c.args.user.now c.args.self.now.seats (c.get_mut.follows.lender ids) (Some ids) ((c.get_mut.follows.holds ids).3 (search rules))
    (λ b t. b && not t) and_not_stays c.args.id
    (λ k. number_less c.args.id c.in-Some.ids.now ids k c.remove.ensures.updates
    ∙ ap (λ entry. has_number entry k && not (c.args.id == k)) c.in-Some.ensures.value)

pub returns-then-is_empty : goal.returns-then-is_empty
returns-then-is_empty c = λ other k.
    let ids = c.remove.new.self in
    let less = c.get_mut.follows.lender ids in
    let updates = (c.get_mut.follows.holds ids).3 (search rules) in
    kept_same c.args.user.now less c.remove-then-is_empty.new.self None c.remove-then-is_empty.ensures.updates
    (λ n. sym (ap (λ entry. has_number entry n) updates.1 ∙ none_in_empty (is_at (nat_cmp n)) ids.keys (c.if-is_empty.ensures.0 refl))) other k
    ∙ kept_changed c.args.user.now c.args.self.now.seats less (Some ids) updates
    (λ b t. b && not t) and_not_stays c.args.id
    (λ n. number_less c.args.id c.in-Some.ids.now ids n c.remove.ensures.updates
    ∙ ap (λ entry. has_number entry n && not (c.args.id == n)) c.in-Some.ensures.value) other k
