-- What whoever applies events does.
use Rattle.std.specs.Prelude.{◌≡◌, List, [], ◌∷◌}
use Rattle.radio_events.specs.declared.entry.Entry.{Entry}
use Rattle.radio_events.specs.declared.event.Event.{Event}
use Rattle.radio_events.specs.declared.reply.Reply.{Reply}

-- from a state, an event is answered by a reply, and leaves a state
abbrev pub Steps : Type 0 → Type 1
Steps S = S → Event → Reply → S → Type 0

-- from one state these events were applied one after another, with these replies, and left the other
abbrev pub Chain : {S : Type 0} → Steps S → S → List Entry → S → Type 0
Chain steps from [] to = to ≡ from
Chain {S} steps from (e ∷ entries) to = (mid : S) × steps from e.event e.reply mid × Chain steps mid entries to
