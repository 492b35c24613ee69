-- Clients and relays that a caller's calls let in, and the entry that is reserved for the end of each.
use Rattle.std.specs.Prelude.{ℕ, Bool, true, false, List, [], ◌∷◌, ◌++◌, ◌==◌, Option, None, Some, if◌then◌else◌}
use Rattle.std.specs.List.{position, remove}
use Rattle.std.specs.Option.{is_some}
use Rattle.radio_events.specs.declared.event.Event.{Event}
use Rattle.radio_events.specs.declared.event.Event.TheVariants.{Arrive, Leave, RelayUp, RelayDown}
use Rattle.radio_events.specs.declared.reply.Reply.{Reply}
use Rattle.radio_events.specs.declared.reply.Reply.TheVariants.{Arrived}
use Rattle.radio_book.specs.declared.newcomer.Newcomer.{Newcomer}
use Rattle.radio_book.specs.declared.newcomer.Newcomer.TheVariants.{Client, Relay}
use Rattle.radio_book.specs.Receipts.{ReceiptOf}

abbrev pub newcomer_number : Newcomer → ℕ
newcomer_number (Client id) = id
newcomer_number (Relay id) = id

abbrev pub is_same : Newcomer → Newcomer → Bool
is_same (Client a) (Client b) = b == a
is_same (Relay a) (Relay b) = b == a
is_same one other = false

-- the client or relay that the event ends: the client leaves, or the relay goes down
abbrev pub leaver_of : Event → Option Newcomer
leaver_of (Leave id) = Some (Client id)
leaver_of (RelayDown id) = Some (Relay id)
leaver_of event = None

-- somebody comes: a connection, or a relay that comes up
abbrev pub is_arrival : Event → Bool
is_arrival (Arrive peer) = true
is_arrival (RelayUp mount shown) = true
is_arrival event = false

-- the new client or relay, if the reply lets it in
abbrev pub newcomer_by : Event → Reply → Option Newcomer
newcomer_by (Arrive peer) (Arrived id) = Some (Client id)
newcomer_by (RelayUp mount shown) (Arrived id) = Some (Relay id)
newcomer_by event reply = None

-- its position among these
abbrev pub position_among : Newcomer → List Newcomer → Option ℕ
position_among one present = position (λ other. is_same one other) present

abbrev pub without_newcomer : Option ℕ → List Newcomer → List Newcomer
without_newcomer None present = present
without_newcomer (Some i) present = remove present i

abbrev pub with_newcomer : Option Newcomer → List Newcomer → List Newcomer
with_newcomer None present = present
with_newcomer (Some newcomer) present = present ++ newcomer ∷ []

abbrev pub present_by : Option Newcomer → Option Newcomer → List Newcomer → List Newcomer
present_by None newcomer present = with_newcomer newcomer present
present_by (Some gone) newcomer present = without_newcomer (position_among gone present) present

-- the clients and relays present after a call: those present before it, with the one that it let in, or without the one that it ended
abbrev pub present_after : List Newcomer → Event → Reply → List Newcomer
present_after present event reply = present_by (leaver_of event) (newcomer_by event reply) present

abbrev pub present_from : List Newcomer → List ReceiptOf → List Newcomer
present_from present [] = present
present_from present (s ∷ stamps) = present_from (present_after present s.event s.reply) stamps

-- the clients and relays that these calls let in and have not ended
abbrev pub present_of : List ReceiptOf → List Newcomer
present_of stamps = present_from [] stamps

-- it was let in by these calls, and has not gone by them
-- rule: Reserved ends
abbrev pub is_here : Newcomer → List ReceiptOf → Bool
is_here one stamps = is_some (position_among one (present_of stamps))

-- how many entries an event must find room for: its own, and the end of a client or relay that it may let in.
-- the end of one that is present has its room already
abbrev pub room_by : Option Newcomer → Bool → List Newcomer → ℕ
room_by None came present = if came then 2 else 1
room_by (Some gone) came present = if is_some (position_among gone present) then 0 else 1

-- rule: Reserved ends
abbrev pub room_for : List Newcomer → Event → ℕ
room_for present event = room_by (leaver_of event) (is_arrival event) present
