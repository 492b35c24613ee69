use Rattle.std.proofs.Common.{◌≡◌, List, map, IfOk, ap, sym, subst, ◌∙◌}
use Rattle.radio_seats.proofs.Words.{SeatTable, ListedGuest, lent_guest, guests_at, is_number, name_in}
use Rattle.radio_seats.proofs.ListedLemmas.{guests_there, no_guests}
use Rattle.radio_seats.proofs.seats.Seats.guests_at.Goals as goal

pub returns-in-Some : goal.returns-in-Some
returns-in-Some c =
    let name = name_in c.self.inside.mounts.mounts in
    subst (λ (all : List ListedGuest). IfOk c.guests_in.result (λ found. map lent_guest found.items ≡ all))
    (sym (guests_there name c.args.mount.now c.in-Some.number (λ k. c.number.ensures.only k ∙ ap (λ n. is_number n k) c.in-Some.is) c.self.inside.rows)
    ∙ ap (λ (b : SeatTable). guests_at b.seats c.args.mount.now) c.self.view_is)
    c.guests_in.ensures

pub returns-in-None : goal.returns-in-None
returns-in-None c =
    let name = name_in c.self.inside.mounts.mounts in
    ap (map lent_guest) c.new.ensures.items
    ∙ sym (no_guests name c.args.mount.now (λ k. c.number.ensures.only k ∙ ap (λ n. is_number n k) c.in-None.is) c.self.inside.rows)
    ∙ ap (λ (b : SeatTable). guests_at b.seats c.args.mount.now) c.self.view_is
