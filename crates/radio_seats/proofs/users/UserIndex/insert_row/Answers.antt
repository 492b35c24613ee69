use Rattle.std.proofs.Common.{◌==◌, ◌||◌, ap, sym, subst, refl, ◌∙◌}
use Rattle.radio_seats.proofs.Words.{◌&&◌, option_copied, nat_cmp, placed, ListenerRow, is_user, user_in, is_kept, AreKept, HasItsUser}
use Rattle.radio_seats.proofs.UserLemmas.{kept_placed, kept_refused, kept_still}
use Rattle.radio_seats.proofs.users.UserIndex.insert_row.Goals as goal

pub returns-in-Ok-clause-ok : goal.returns-in-Ok-clause-ok
returns-in-Ok-clause-ok c =
    let by_number = λ (a b : ListenerRow). nat_cmp a.id b.id in
    c.in-Ok.ensures.ok ∙ ap (λ row. placed by_number row c.args.rows.now) c.in_ok-row.ensures

pub returns-in-Ok-clause-kept : goal.returns-in-Ok-clause-kept
returns-in-Ok-clause-kept c =
    let seats = c.args.self.now.seats in
    let row = c.in_ok-row.row in
    let user = option_copied c.as_ref-in-Ok-2.result in
    let same = c.as_ref-in-Ok-2.ensures.value in
    subst (AreKept c.remove.new.self.seats) (sym c.in-Ok.ensures.ok)
    (kept_placed seats c.args.rows.now c.requires c.args.id (option_copied c.as_ref-in-Ok.result)
    (c.as_ref-in-Ok.ensures.value ∙ c.in_ok-before.ensures ∙ c.user_of.ensures ∙ ap user_in c.get.ensures)
    c.add.new.self.seats user
    (λ other k. c.in_ok-add.ensures.ok other k
    ∙ ap (λ his. is_kept seats other k || ((c.args.id == k) && is_user other his)) (c.as_ref-2.ensures.value ∙ sym same))
    c.remove.new.self.seats c.remove.ensures row
    (ap (λ (r : ListenerRow). r.id) c.in_ok-row.ensures) (sym (same ∙ c.in_ok-user.ensures ∙ c.as_ref.ensures.value))
    (subst HasItsUser (sym c.in_ok-row.ensures) refl))

-- where the row is refused, its listener is kept under the user that it had
pub returns-clause-kept : goal.returns-clause-kept
returns-clause-kept c =
    let seats = c.args.self.now.seats in
    subst (AreKept c.remove-in-Err.new.self.seats) (sym c.in-Err.ensures.err)
    (kept_refused seats c.args.rows.now c.requires c.args.id (option_copied c.as_ref-in-Err-2.result)
    (c.as_ref-in-Err-2.ensures.value ∙ c.in_ok-before.ensures ∙ c.user_of.ensures ∙ ap user_in c.get.ensures)
    c.add.new.self.seats (option_copied c.as_ref-in-Err.result)
    (λ other k. c.in_ok-add.ensures.ok other k
    ∙ ap (λ his. is_kept seats other k || ((c.args.id == k) && is_user other his)) (c.as_ref-2.ensures.value ∙ sym c.as_ref-in-Err.ensures.value))
    c.remove-in-Err.new.self.seats c.remove-in-Err.ensures)

pub returns-in_err-add-clause-kept : goal.returns-in_err-add-clause-kept
returns-in_err-add-clause-kept c = kept_still c.args.self.now.seats c.add.new.self.seats c.args.rows.now c.requires c.in_err-add.ensures.err
