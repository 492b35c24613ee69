-- what goes out for events of the server
use Rattle.std.proofs.Common.{◌≡◌, ℕ, List, [], ◌∷◌, ◌++◌, refl, ap, sym, append-nil}
use Rattle.radio_floor.proofs.Words.{Event, World, reply_to, world_after, State, Running, Shut, Said, said, WorldExchange, exchanged, replies_to, then_exchanged, ExchangesTellReplies}
use Rattle.radio_session.specs.Told.{told, while_open}

-- what goes out for one event, and what for the others
goes_out : (w : World) (id : ℕ) (event : Event) (here : Said) (state : State) (others : WorldExchange) (later : List ℕ)
    → others.exchange.bytes ≡ later → (then_exchanged w id event here state others).exchange.bytes ≡ here.bytes ++ while_open state later
goes_out w id event here Running others later e = ap (λ (bytes : List ℕ). here.bytes ++ bytes) e
goes_out w id event here (Shut ending) others later e = sym (append-nil here.bytes)

pub exchanges_tell : ExchangesTellReplies
exchanges_tell w id says [] = refl
exchanges_tell w id says (event ∷ events) =
    let here = said says (reply_to w event) in
    goes_out (world_after w event) id event here here.state (exchanged (world_after w event) id here.says events)
    (told here.says (replies_to (world_after w event) events)) (exchanges_tell (world_after w event) id here.says events)
