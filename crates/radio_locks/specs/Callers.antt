-- The result of a hall's call, and what the caller's pass gains.
use Rattle.std.specs.Prelude.{◌≡◌, ℕ, Bool, true, false, List, [], ◌∷◌, ◌++◌, map, Result, IfOk, OnErr}
use Rattle.std.specs.declared.alloc.AllocError.{AllocError}
use Rattle.radio_events.specs.declared.event.Event.{Event}
use Rattle.radio_events.specs.declared.event.Event.TheVariants.{Leave}
use Rattle.radio_events.specs.declared.reply.Reply.{Reply}
use Rattle.radio_events.specs.Events.{EventTakesNoMemory}
use Rattle.radio_parts_station.specs.World.{World}
use Rattle.radio_book.specs.declared.newcomer.Newcomer.TheVariants.{Client}
use Rattle.radio_book.specs.Newcomers.{is_here}
use Rattle.radio_book.specs.declared.mount_book.Own.{Own}
use Rattle.radio_book.specs.declared.mount_book.Own.TheVariants.{Made, Elsewhere}
use Rattle.radio_events.specs.declared.entry.Entry.{Entry}
use Rattle.radio_chronicle.specs.Stamps.{stamp}
use Rattle.radio_chronicle.specs.declared.stamp.Stamp.{Stamp}
use Rattle.radio_book.specs.Receipts.{receipt_entry, has_fed, receipt_of, ReceiptOf}
use Rattle.radio_locks.specs.Replies.{IsReplied}
use Rattle.radio_events.specs.Servers.{Chain}

-- the event does not end a client that these receipts let in, that has not left by them and has never fed by them
abbrev pub IsNotItsEnd : List ReceiptOf → Event → Type 0
IsNotItsEnd receipts event = (id : ℕ) → event ≡ Leave id → is_here (Client id) receipts ≡ true → has_fed id receipts ≡ false → ⊥

-- if entries are stored, the pass gains the receipt of this event with this reply
abbrev pub Gains : Bool → List ReceiptOf → Event → Reply → List ReceiptOf → Type 0
Gains keeps before event reply now = keeps ≡ true → (stamp : Stamp) × (now ≡ before ++ receipt_of stamp event reply ∷ [])

-- the same if a part has replied; if it has not, the pass is as before
abbrev pub OwnGains : Bool → List ReceiptOf → Event → Own → List ReceiptOf → Type 0
OwnGains keeps before event (Made reply) now = Gains keeps before event reply now
OwnGains keeps before event (Elsewhere same) now = now ≡ before

-- A call for this event has ended with a reply, or memory was refused. The caller's pass was so before, and is so now.
pub record IsResultOfStep (keeps : Bool) (opening : World) (before : List ReceiptOf) (event : Event) (result : Result Reply AllocError) (now : List ReceiptOf) : Type 0 where
  -- the reply is a part's own, or that of a control that its entries have made, over the parts that it was lent
  pub legal : IfOk result (λ reply. ∥ IsReplied opening event reply ∥₁)
  -- if entries are stored, the pass gains the receipt; if they are not, nothing is noted
  pub gains : IfOk result (λ reply. Gains keeps before event reply now)
  pub unkept : keeps ≡ false → now ≡ before
  pub refused : OnErr result (now ≡ before)

-- A call for this event has ended with a receipt of it, or memory was refused. The pass was so before, and is so now.
-- rule: Legal history
pub record IsResultOfCall (keeps : Bool) (opening : World) (before : List ReceiptOf) (event : Event) (result : Result ReceiptOf AllocError) (now : List ReceiptOf) : Type 0 where
  pub event_is : IfOk result (λ receipt. receipt.event ≡ event)
  -- the reply is a part's own, or that of a control that its entries have made, over the parts that it was lent
  pub legal : IfOk result (λ receipt. ∥ IsReplied opening event receipt.reply ∥₁)
  -- if entries are stored, the pass gains the receipt; if they are not, nothing is noted
  pub kept : keeps ≡ true → IfOk result (λ receipt. now ≡ before ++ receipt ∷ [])
  pub unkept : keeps ≡ false → (now ≡ before) × IfOk result (λ receipt. receipt.stamp ≡ stamp 0 0)
  pub refused : OnErr result (now ≡ before)

-- Whatever is stored, the reply is a legal one. If entries are stored, the pass gains its receipt; if they are not, nothing is noted.
-- rule: Legal history
pub record IsCalled (keeps : Bool) (opening : World) (before : List ReceiptOf) (event : Event) (reply : Reply) (now : List ReceiptOf) : Type 0 where
  pub legal : ∥ IsReplied opening event reply ∥₁
  pub gains : Gains keeps before event reply now
  pub unkept : keeps ≡ false → now ≡ before

-- Memory may be refused for this event. If entries are stored, it does not end a client of the caller's that has never fed.
-- If none are stored, it takes memory.
-- rule: Refused memory
pub record MayBeRefused (keeps : Bool) (before : List ReceiptOf) (event : Event) : Type 0 where
  pub other : keeps ≡ true → IsNotItsEnd before event
  pub takes : keeps ≡ false → EventTakesNoMemory event → ⊥

-- If entries are stored, the pass gains the receipts of what was applied, in its order.
abbrev pub PassesGainWhatWasApplied : Type 0
PassesGainWhatWasApplied = (opening : World) (before after : List ReceiptOf) (entries : List Entry) → Chain (IsCalled true opening) before entries after
    → (receipts : List ReceiptOf) × (after ≡ before ++ receipts) × (map receipt_entry receipts ≡ entries)
