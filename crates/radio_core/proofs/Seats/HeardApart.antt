-- whoever sits in a session, or waits for one, sits in no other
use Rattle.std.proofs.Common.{◌≡◌, true, false, ℕ, ◌==◌, Some, None, List, ap, sym, ◌∙◌}
use Rattle.radio_core.proofs.Words.{bytes_eq, bytes_eq-Decides, by_number, by_name, Seat, seat_of, Session, session_of, Unknown, Feeds, heard_at, World, standing_of, IsSound, heard_live, heard_cases}
use Rattle.radio_core.proofs.Clients.Fates.{HasEnded}

-- no session has the number 0
pub past_zero : (w : World) → IsSound w → (mount : List ℕ) (session : Session) → session_of w.station.live mount ≡ Some session → (session.number == 0) ≡ false
past_zero w s mount session live =
    by_number session.number 0
    (λ same.
    let feeds : standing_of w session.number ≡ Feeds mount = s.fed mount session live in
    let unknown : standing_of w session.number ≡ Unknown = ap (standing_of w) same ∙ s.from_one in
    cc)
    (λ apart. apart)

-- so whoever sits where there is one sits in no session of that number
pub sits_past_zero : (w : World) → IsSound w → (id : ℕ) (seat : Seat) (session : Session) → seat_of w.seats id ≡ Some seat
    → session_of w.station.live seat.mount ≡ Some session → (seat.session == 0) ≡ false
sits_past_zero w s id seat session has live =
    let old = s.seated id seat has in
    let both : Some old.session ≡ Some session = sym old.is_heard ∙ heard_live w.station seat.mount session live in
    let one : old.session ≡ session = cc in
    let number : seat.session ≡ session.number = sym old.his_session ∙ ap (λ (x : Session). x.number) one in
    ap (λ (n : ℕ). n == 0) number ∙ past_zero w s seat.mount session live

-- who sits in the session of one mount, or waits for one, does not sit in that of another
pub apart_sessions : (w : World) → IsSound w → (id : ℕ) (seat : Seat) (session : Session) → seat_of w.seats id ≡ Some seat
    → session_of w.station.live session.mount ≡ Some session → bytes_eq seat.mount session.mount ≡ false → (seat.session == session.number) ≡ false
apart_sessions w s id seat session has live away =
    by_number seat.session session.number
    (λ same.
    let old = s.seated id seat has in
    let feeds : standing_of w session.number ≡ Feeds session.mount = s.fed session.mount session live in
    heard_cases w.station seat.mount old.session old.is_heard
    (λ there.
    let fed : standing_of w old.session.number ≡ Feeds seat.mount = s.fed seat.mount old.session there in
    let both : Feeds seat.mount ≡ Feeds session.mount = sym fed ∙ ap (standing_of w) (old.his_session ∙ same) ∙ feeds in
    let one : seat.mount ≡ session.mount = cc in
    let at : bytes_eq seat.mount session.mount ≡ true = (bytes_eq-Decides seat.mount session.mount).1 one in
    cc)
    (λ none silent.
    let zero : session.number ≡ 0 = sym same ∙ sym old.his_session ∙ sym (ap (λ (x : Session). x.number) silent) in
    let unknown : standing_of w session.number ≡ Unknown = ap (standing_of w) zero ∙ s.from_one in
    cc))
    (λ apart. apart)

-- and who is moved since its session is over goes on in another, or waits
pub apart_then : (w later : World) → IsSound w
    → ((mount : List ℕ) (session : Session) → session_of later.station.live mount ≡ Some session → session_of w.station.live mount ≡ Some session)
    → (id : ℕ) (old : Seat) (session : Session) → seat_of w.seats id ≡ Some old → HasEnded later old session
    → heard_at later.station session.mount ≡ Some session → (old.session == session.number) ≡ false
apart_then w later s live id old session had left heard =
    heard_cases later.station session.mount session heard
    (λ there.
    apart_sessions w s id old session had (live session.mount session there)
    (by_name old.mount session.mount
    (λ same. let gone : session_of later.station.live session.mount ≡ None = ap (session_of later.station.live) (sym same) ∙ left.0 in cc)
    (λ away. away)))
    (λ none silent. ap (λ (x : Session). old.session == x.number) (sym silent) ∙ left.1)
