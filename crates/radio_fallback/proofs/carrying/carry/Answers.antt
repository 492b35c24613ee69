use Rattle.std.proofs.Common.{◌≡◌, ◌<◌, ◌^◌, List, length, refl, ap, sym, subst, ◌∙◌, arith}
use Rattle.radio_fallback.proofs.Words.{SeatTable, ends_in, with_ends, Carry, carry_after_move, turn_of, turns, heard}
use Rattle.radio_seats.proofs.RowLemmas.{same_table}
use Rattle.radio_parts_mount.specs.Sessions.{Session}
use Rattle.radio_fallback.proofs.HeardLemmas.{begins_heard, goes_on_heard}
use Rattle.radio_fallback.proofs.CarryLemmas.{begins, as_many, goes_on, fewer_left, all_counted, has_room, nobody_is_next}
use Rattle.radio_fallback.proofs.carrying.carry.Goals as goal

pub listeners-init : goal.listeners-init
listeners-init g c =
    let sight = with_ends (g.V.View.sight c.args.view.now) (ends_in (g.A.Attachments.live c.args.attached.now)) in
    let many = as_many c.args.seats.now.seats in (
      begins sight c.args.moving.now c.args.seats.now.seats,
      refl,
      omega (arith, many),
      begins_heard sight c.args.moving.now (g.A.Attachments.places c.args.attached.now) c.args.seats.now.seats,
      λ fits. fits,
      λ mount. refl,
      refl,
    )

pub take_turn-counts-requires-clause-room : goal.take_turn-counts-requires-clause-room
take_turn-counts-requires-clause-room g c =
    let sight = with_ends (g.V.View.sight c.args.view.now) (ends_in (g.A.Attachments.live c.args.attached.now)) in
    let few : length c.args.seats.now.seats < 2 ^ 64 = omega (arith, c.len.ensures, c.len.type_inv) in
    has_room sight c.args.moving.now c.listeners.last c.in-Some.id c.listeners.seats.seats c.listeners.counts
    c.next.ensures.rising (sym c.in-Some.is ∙ c.next.ensures.next) (length c.args.seats.now.seats) c.listeners.invariant.2 few

pub listeners-smaller : goal.listeners-smaller
listeners-smaller g c =
    let sight = with_ends (g.V.View.sight c.args.view.now) (ends_in (g.A.Attachments.live c.listeners.attached)) in
    fewer_left sight c.args.moving.now c.listeners.last c.in-Some.id c.listeners.seats.seats c.listeners.counts
    c.next.ensures.rising (sym c.in-Some.is ∙ c.next.ensures.next) c.take_turn-counts.new.seats.seats c.take_turn-counts.result
    (ap (λ (b : SeatTable). b.seats) c.take_turn-counts.ensures.seats) c.take_turn-counts.ensures.counts

pub listeners-preserved : goal.listeners-preserved
listeners-preserved g c =
    let view = g.V.View.sight c.args.view.now in
    let ends = ends_in (g.A.Attachments.live c.args.attached.now) in
    let sight = with_ends view ends in
    let move = c.args.moving.now in
    let id = c.in-Some.id in
    let seats = c.listeners.seats.seats in
    let counts = c.listeners.counts in
    let places = g.A.Attachments.places c.listeners.attached in
    let later = g.A.Attachments.places c.take_turn-counts.new.attached in
    let new = c.take_turn-counts.new.seats.seats in
    let counted = c.take_turn-counts.result in
    let unmoved = c.listeners.invariant.6 in
    let next = sym c.in-Some.is ∙ c.next.ensures.next in
    let is_later = subst (λ (live : List Session). new
    ≡ (carry_after_move (with_ends view (ends_in live)) id (record { seats = seats; counts = counts }) (turn_of (with_ends view (ends_in live)) move seats id)).seats) unmoved
    (ap (λ (b : SeatTable). b.seats) c.take_turn-counts.ensures.seats) in
    let is_counted = subst (λ (live : List Session). counted
    ≡ (carry_after_move (with_ends view (ends_in live)) id (record { seats = seats; counts = counts }) (turn_of (with_ends view (ends_in live)) move seats id)).counts) unmoved
    c.take_turn-counts.ensures.counts in
    let is_heard = subst (λ (live : List Session). heard later new
    ≡ (carry_after_move (with_ends view (ends_in live)) id (record { seats = heard places seats; counts = counts }) (turn_of (with_ends view (ends_in live)) move (heard places seats) id)).seats)
    unmoved c.take_turn-counts.ensures.heard in (
      goes_on sight move c.listeners.last id seats counts c.next.ensures.rising next new counted is_later is_counted ∙ c.listeners.invariant.0,
      ap (λ (b : SeatTable). b.prepared) c.take_turn-counts.ensures.seats ∙ c.listeners.invariant.1,
      all_counted sight move c.listeners.last id seats counts c.next.ensures.rising next new counted is_later is_counted
          (length c.args.seats.now.seats) c.listeners.invariant.2,
      goes_on_heard sight move places later c.listeners.last id seats counts c.next.ensures.rising next new counted is_later is_counted is_heard
          ∙ c.listeners.invariant.3,
      λ fits. c.take_turn-counts.ensures.fits (c.listeners.invariant.4 fits),
      λ mount. c.take_turn-counts.ensures.parts mount ∙ c.listeners.invariant.5 mount,
      c.take_turn-counts.ensures.live ∙ unmoved,
    )

pub returns-clause-fits : goal.returns-clause-fits
returns-clause-fits g c = c.listeners.invariant.4

pub returns-clause-parts : goal.returns-clause-parts
returns-clause-parts g c = c.listeners.invariant.5

pub returns-clause-live : goal.returns-clause-live
returns-clause-live g c = c.listeners.invariant.6

pub take_turn-counts-requires-clause-parts : goal.take_turn-counts-requires-clause-parts
take_turn-counts-requires-clause-parts g c = λ mount live. c.listeners.invariant.5 mount ∙ c.requires.parts mount live

pub returns-clause-heard : goal.returns-clause-heard
returns-clause-heard g c =
    let sight = with_ends (g.V.View.sight c.args.view.now) (ends_in (g.A.Attachments.live c.args.attached.now)) in
    let none = nobody_is_next c.listeners.seats.seats c.listeners.last (sym c.in_default.is ∙ c.next.ensures.next) in
    ap (λ (x : Carry). x.seats)
    (sym (ap (λ ns. turns sight c.args.moving.now ns (record {
      seats = heard (g.A.Attachments.places c.listeners.attached) c.listeners.seats.seats;
      counts = c.listeners.counts;
    })) none)
    ∙ c.listeners.invariant.3)

pub returns-clause-heard_counts : goal.returns-clause-heard_counts
returns-clause-heard_counts g c =
    let sight = with_ends (g.V.View.sight c.args.view.now) (ends_in (g.A.Attachments.live c.args.attached.now)) in
    let none = nobody_is_next c.listeners.seats.seats c.listeners.last (sym c.in_default.is ∙ c.next.ensures.next) in
    ap (λ (x : Carry). x.counts)
    (sym (ap (λ ns. turns sight c.args.moving.now ns (record {
      seats = heard (g.A.Attachments.places c.listeners.attached) c.listeners.seats.seats;
      counts = c.listeners.counts;
    })) none)
    ∙ c.listeners.invariant.3)

pub returns-clause-seats : goal.returns-clause-seats
returns-clause-seats g c =
    let sight = with_ends (g.V.View.sight c.args.view.now) (ends_in (g.A.Attachments.live c.args.attached.now)) in
    let none = nobody_is_next c.listeners.seats.seats c.listeners.last (sym c.in_default.is ∙ c.next.ensures.next) in
    same_table c.listeners.seats.prepared c.args.seats.now.prepared c.listeners.seats.seats _ c.listeners.invariant.1
    (ap (λ (x : Carry). x.seats)
    (sym (ap (λ ns. turns sight c.args.moving.now ns (record { seats = c.listeners.seats.seats; counts = c.listeners.counts })) none)
    ∙ c.listeners.invariant.0))

pub returns-clause-counts : goal.returns-clause-counts
returns-clause-counts g c =
    let sight = with_ends (g.V.View.sight c.args.view.now) (ends_in (g.A.Attachments.live c.args.attached.now)) in
    let none = nobody_is_next c.listeners.seats.seats c.listeners.last (sym c.in_default.is ∙ c.next.ensures.next) in
    ap (λ (x : Carry). x.counts)
    (sym (ap (λ ns. turns sight c.args.moving.now ns (record { seats = c.listeners.seats.seats; counts = c.listeners.counts })) none)
    ∙ c.listeners.invariant.0)
