-- the station and the listeners that are lent make up the state
use Rattle.std.proofs.Common.{◌≡◌, List, ap, ◌∙◌}
use Rattle.radio_parts.proofs.Words.{Listener, StationState, World, world}

pub lent_state : (w : World) (station : StationState) (seats : List Listener) → station ≡ w.station → seats ≡ w.seats → world station seats ≡ w
lent_state w station seats its_station its_seats = ap (λ (h : StationState). world h seats) its_station ∙ ap (world w.station) its_seats
