-- who sits, and its seat
use Rattle.std.proofs.Common.{◌≡◌, ℕ, Option, Some, None, refl}
use Rattle.radio_core.proofs.Words.{Peer, Listener, Seat, Seating, listener_of, seat_of, seat_in, seat_held, ClientState, Listens, Ended, Sits, Client, client_of, Relay, relay_of, World, standing_of, standing_of_found}
use Rattle.radio_core.proofs.Words.{standing_of_client, standing_of_listener, standing_seated}
use Rattle.radio_seats_rows.specs.declared.seat.Seating.TheVariants.{Sits as HasSeat, Finished as HasFinished}
use Rattle.radio_parts_station.specs.declared.clients.ClientState.TheVariants.{Undecided as IsNew, Feeds as IsSource, Answered}
use Rattle.radio_core.proofs.Clients.Standings.{no_relay_sits}

-- who sits has a seat
held_seat : (seating : Seating) → standing_seated seating ≡ Sits → (seat : Seat) × (seat_held seating ≡ Some seat)
held_seat (HasSeat seat) e = (seat, refl)
held_seat (HasFinished rule mount) e = cc

listener_seat : (listener : Option Listener) → standing_of_listener listener ≡ Sits → (seat : Seat) × (seat_in listener ≡ Some seat)
listener_seat None e = cc
listener_seat (Some listener) e = held_seat listener.seating e

by_state : (listener : Option Listener) (peer : Peer) (state : ClientState) → standing_of_client listener peer state ≡ Sits
    → (seat : Seat) × (seat_in listener ≡ Some seat)
by_state listener peer IsNew e = cc
by_state listener peer (IsSource mount) e = cc
by_state listener peer Listens e = listener_seat listener e
by_state listener peer Answered e = cc
by_state listener peer (Ended rule) e = cc

by_client : (relay : Option Relay) (listener : Option Listener) (client : Option Client) → standing_of_found relay listener client ≡ Sits → (seat : Seat) × (seat_in listener ≡ Some seat)
by_client relay listener None e = absurd (no_relay_sits relay e)
by_client relay listener (Some client) e = by_state listener client.peer client.state e

pub seat_of_sitting : (w : World) (id : ℕ) → standing_of w id ≡ Sits → (seat : Seat) × (seat_of w.seats id ≡ Some seat)
seat_of_sitting w id e = by_client (relay_of w.station.relays id) (listener_of w.seats id) (client_of w.station.clients id) e
