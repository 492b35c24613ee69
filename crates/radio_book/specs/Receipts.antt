-- What receipts say.
use Rattle.std.specs.List.{list_any}
use Rattle.std.specs.Option.{option_map_or}
use Rattle.std.specs.Prelude.{◌≡◌, ℕ, ◌-◌, Bool, false, ◌==◌, List, [], ◌∷◌, ◌++◌, length, slice_get}
use Rattle.radio_events.specs.Events.{entry}
use Rattle.radio_events.specs.declared.entry.Entry.{Entry}
use Rattle.radio_events.specs.declared.event.Event.{Event}
use Rattle.radio_events.specs.declared.event.Event.TheVariants.{Source}
use Rattle.radio_events.specs.declared.reply.Reply.{Reply}
use Rattle.radio_events.specs.declared.reply.Reply.TheVariants.{Feeding}
use Rattle.radio_chronicle.specs.Stamps.{stamp}
use Rattle.radio_chronicle.specs.declared.stamp.Stamp.{Stamp}

-- this place of a list has this event with this reply
-- rule: Receipts
pub record ReceiptOf : Type 0 where
  pub stamp : Stamp
  pub event : Event
  pub reply : Reply

-- its event, with its reply
-- rule: Receipts
abbrev pub receipt_entry : ReceiptOf → Entry
receipt_entry receipt = entry receipt.event receipt.reply

abbrev pub receipt_of : Stamp → Event → Reply → ReceiptOf
receipt_of stamp event reply = record { stamp = stamp; event = event; reply = reply }

-- the last of these is a receipt of this event with this reply
-- rule: Receipts
abbrev pub LastIsOf : List ReceiptOf → Event → Reply → Type 0
LastIsOf receipts event reply = (front : List ReceiptOf) × (place : Stamp) × (receipts ≡ front ++ receipt_of place event reply ∷ [])

-- the place of the last receipt, if there is one
abbrev pub last_place : List ReceiptOf → Stamp
last_place receipts = option_map_or (λ (receipt : ReceiptOf). receipt.stamp) (slice_get receipts (length receipts - 1)) (stamp 0 0)

-- by this event, answered so, the client has begun to feed a mount
abbrev pub feeds_by : ℕ → Event → Reply → Bool
feeds_by id (Source asked) Feeding = asked.id == id
feeds_by id event reply = false

-- the client has fed a mount by one of these
-- rule: Reserved ends
abbrev pub has_fed : ℕ → List ReceiptOf → Bool
has_fed id receipts = list_any (λ receipt. feeds_by id receipt.event receipt.reply) receipts
