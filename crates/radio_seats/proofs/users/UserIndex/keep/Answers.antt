use Rattle.std.proofs.Common.{ℕ, List, Some, ◌||◌, ◌==◌, ap, ◌∙◌, rules}
use Rattle.radio_seats.proofs.Words.{is_at, list_any, nat_cmp, has_number}
use Rattle.radio_seats.proofs.UserTrees.{kept_changed, kept_same, or_stays, number_more}
use Rattle.radio_seats.proofs.users.UserIndex.keep.Goals as goal

pub returns-in-Ok-clause-ok : goal.returns-in-Ok-clause-ok
returns-in-Ok-clause-ok c =
    let ids = c.insert.new.self in
    kept_changed c.args.user.now c.args.self.now.seats (c.get_mut.follows.lender ids) (Some ids) ((c.get_mut.follows.holds ids).3 (search rules))
    (λ b t. b || t) or_stays c.args.id
    (λ k. number_more c.args.id c.in-Some.ids.now ids k c.in-Ok.ensures.updates
    ∙ ap (λ entry. has_number entry k || (c.args.id == k)) c.in-Some.ensures.value)

pub returns-in-Err-clause-err : goal.returns-in-Err-clause-err
returns-in-Err-clause-err c =
    let ids = c.insert.new.self in
    kept_same c.args.user.now c.args.self.now.seats (c.get_mut.follows.lender ids) (Some ids) ((c.get_mut.follows.holds ids).3 (search rules))
    (λ k. ap (λ (ns : List ℕ). list_any (is_at (nat_cmp k)) ns) c.in-Err.ensures.err
    ∙ ap (λ entry. has_number entry k) c.in-Some.ensures.value)
