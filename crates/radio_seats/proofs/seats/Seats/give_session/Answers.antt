use Rattle.std.proofs.Common.{◌≡◌, ap, sym, subst, refl, ◌∙◌}
use Rattle.radio_seats.proofs.Words.{map, SeatTable, is_number, name_in, named, FitRows, with_session_at}
use Rattle.radio_seats.proofs.GivenRows.{counted_hearing, nobody_hears, seats_hearing}
use Rattle.radio_seats.proofs.KeptRows.{kept_hearing}
use Rattle.radio_seats.proofs.RowLemmas.{same_table}
use Rattle.radio_seats.proofs.seats.Seats.give_session.Goals as goal

pub returns-in_default : goal.returns-in_default
returns-in_default c =
    let mounts = c.self.inside.mounts in
    let name = name_in mounts.mounts in
    let mount = c.args.mount.now in
    subst (λ (b : SeatTable). b ≡ record b { seats = with_session_at b.seats mount c.args.session }) c.self.view_is
    (same_table mounts.names mounts.names _ _ refl
    (nobody_hears name mount c.args.session (λ k. c.number.ensures.only k ∙ ap (λ n. is_number n k) c.in_default.is) c.self.inside.rows))

pub invariant_of-self : goal.invariant_of-self
invariant_of-self c =
    let mounts = c.self.inside.mounts.mounts in
    let users = c.self.inside.users.seats in
    let rows = c.self.inside.rows in
    subst (FitRows mounts users) (sym c.change_all.ensures) (record {
      counted = counted_hearing mounts rows c.in-Some.number c.args.session c.self.invariant.counted;
      kept = kept_hearing users rows c.self.invariant.kept c.in-Some.number c.args.session;
    })

pub returns : goal.returns
returns c =
    let mounts = c.self.inside.mounts in
    let name = name_in mounts.mounts in
    let mount = c.args.mount.now in
    same_table mounts.names c.args.self.now.prepared _ _ (ap (λ (b : SeatTable). b.prepared) c.self.view_is)
    (ap (map (named name)) c.change_all.ensures
    ∙ seats_hearing name mount c.in-Some.number c.args.session (λ k. c.number.ensures.only k ∙ ap (λ n. is_number n k) c.in-Some.is) c.self.inside.rows
    ∙ ap (λ (b : SeatTable). with_session_at b.seats mount c.args.session) c.self.view_is)
