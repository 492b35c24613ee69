use Rattle.std.proofs.Common.{◌≡◌, List, ap, sym, subst, ◌∙◌}
use Rattle.radio_parts_table.proofs.Words.{IfOk, map, ListedGuest, lent_guest, guests_at, places_in, Listening}
use Rattle.radio_parts_table.proofs.HeardReads.{guests_heard}
use Rattle.radio_parts_table.proofs.listeners.Listeners.guests_at.Goals as goal

pub returns : goal.returns
returns c =
    let i = c.self.inside in
    subst (λ (guests : List ListedGuest). IfOk c.guests_at.result (λ found. map lent_guest found.items ≡ guests))
    (sym (guests_heard (places_in i.parts.attached) c.args.mount.now i.seats.seats) ∙ ap (λ (b : Listening). guests_at b.seats c.args.mount.now) c.self.view_is)
    c.guests_at.ensures
