use Rattle.std.proofs.Common.{◌≡◌, ℕ, refl, ap, ◌∙◌}
use Rattle.radio_parts.proofs.Words.{Listing, Status, Stats, Mounts, Clients, Streams, ReplyText, Answer, shown, World, shows, says, uncounted}
use Rattle.radio_events.specs.declared.reply.Reply.TheVariants.{Text as SaysText}
use Rattle.radio_parts.proofs.LentState.{lent_state}
use Rattle.radio_parts.proofs.control.Control.allowed.Goals as goal

-- a listing names no number of listeners moved or finished
untold : (w : World) (id : ℕ) (listing : Listing) → says (SaysText (shown w listing)) (Answer id) ≡ uncounted (shows w id listing)
untold w id Status = refl
untold w id Stats = refl
untold w id Mounts = refl
untold w id (Clients mount) = refl
untold w id Streams = refl

pub returns-in-Listing : goal.returns-in-Listing
returns-in-Listing c =
    let w = c.args.self.now in
    let listing = c.in-Listing.listing in
    let is_shown : c.in_ok-shown-in-Listing.field-0 ≡ shown w listing
    = c.in_ok-shown-in-Listing.ensures
    ∙ ap (λ (v : World). shown v listing) (lent_state w c.station.result c.seats.result.now.seats c.station.ensures c.seats.ensures.seats) in
    rw c.in-Listing.is (ap (λ (text : ReplyText). says (SaysText text) (Answer c.args.asked.id)) is_shown ∙ untold w c.args.asked.id listing)
