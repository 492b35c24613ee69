-- Draws among the events that were asked.
use Rattle.std.proofs.Common.{ℕ, List, [], ◌∷◌, ◌++◌}
use Rattle.radio_stations.proofs.Words.{Event, Draw, HasDrawsAmong, nothing, asks, draws}

-- one more was asked
pub asked_then : (id : ℕ) (last : Event) (applied asked : List Event) → HasDrawsAmong id applied asked
    → HasDrawsAmong id (applied ++ last ∷ []) (asked ++ last ∷ [])
asked_then id last applied asked nothing = asks last [] [] nothing
asked_then id last applied asked (asks event events others w) =
    asks event (events ++ last ∷ []) (others ++ last ∷ []) (asked_then id last events others w)
asked_then id last applied asked (draws room events others w) =
    draws room (events ++ last ∷ []) (others ++ last ∷ []) (asked_then id last events others w)

-- one more draw
pub drawn_then : (id room : ℕ) (applied asked : List Event) → HasDrawsAmong id applied asked → HasDrawsAmong id (applied ++ Draw id room ∷ []) asked
drawn_then id room applied asked nothing = draws room [] [] nothing
drawn_then id room applied asked (asks event events others w) = asks event (events ++ Draw id room ∷ []) others (drawn_then id room events others w)
drawn_then id room applied asked (draws other events others w) = draws other (events ++ Draw id room ∷ []) others (drawn_then id room events others w)
