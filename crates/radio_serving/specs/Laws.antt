-- What holds of what a worker finds of the replies to what it asked.
use Rattle.std.specs.Prelude.{◌≡◌, ◌⊎◌, ◌≤◌, ◌+◌, ℕ, Bool, true, false, List, [], ◌∷◌}
use Rattle.std.specs.List.{list_any}
use Rattle.radio_events.specs.declared.entry.Entry.{Entry}
use Rattle.radio_events.specs.declared.event.Event.{Event}
use Rattle.radio_events.specs.declared.event.Event.TheVariants.{Push, SourceEnd, Title, RelayUp, RelayDown, Leave, Clock, Command as Commands}
use Rattle.radio_events.specs.declared.reply.Reply.{Reply}
use Rattle.radio_events.specs.declared.reply.Reply.TheVariants.{Text}
use Rattle.radio_events.specs.Servers.{Steps}
use Rattle.radio_serving.specs.declared.found.Found.{Found}
use Rattle.radio_serving.specs.Kinds.{event_kind, found_after, nothing_found}
use Rattle.radio_serving.specs.Sources.{is_source_number, with_source, without_source, FeedingClients}
use Rattle.radio_serving.specs.Turns.{Ticks}
use Rattle.radio_serving.specs.Workers.{WorkerOf}

-- what a worker has found after some events and the replies to them, the last one first; each with whether its client had fed a mount
abbrev pub found_after_all : List (Entry × Bool) → Found
found_after_all [] = nothing_found
found_after_all (one ∷ earlier) = found_after (event_kind one.0.event) one.0.reply one.1 (found_after_all earlier)

-- whether listeners may have news by an event that had this reply. It is a block, a title, an end of a source, a relay that came up
-- or went down, or a command that was done. Or it is the leaving of a client that had fed a mount
abbrev pub may_be_news : Event → Reply → Bool → Bool
may_be_news (Push id block) reply fed = true
may_be_news (Title id text) reply fed = true
may_be_news (SourceEnd id) reply fed = true
may_be_news (RelayUp mount shown) reply fed = true
may_be_news (RelayDown id) reply fed = true
may_be_news (Commands request) (Text text) fed = true
may_be_news (Leave id) reply fed = fed
may_be_news event reply fed = false

-- a worker finds news if there was some, and only then
abbrev pub NewsIsFound : Type 0
NewsIsFound = (done : List (Entry × Bool)) → (found_after_all done).has_news ≡ list_any (λ one. may_be_news one.0.event one.0.reply one.1) done

-- once a client that began to feed a mount has left, who feeds is as before
abbrev pub LeaversFeedNoMore : Type 0
LeaversFeedNoMore = (id : ℕ) (before : FeedingClients) → is_source_number id before ≡ false → without_source id (with_source id before) ≡ before

module _ {S : Type 0} (steps : Steps S) (refuses : S → Event → Type 0) where
  -- the worker gives the server the time in a turn at this moment, of which it knows that another was given, unless it is refused memory for that
  abbrev pub GivesTimeInTurn : ℕ → ℕ → WorkerOf S → Type 0
  GivesTimeInTurn ms clock before = (after : WorkerOf S) → Ticks steps refuses ms clock before after → (after.clock_ms ≡ ms) ⊎ refuses before.server (Clock ms)

  -- if for fifty milliseconds nobody gave the server the time, neither the worker nor others, the worker does
  abbrev pub TimeIsGiven : Type 0
  TimeIsGiven = (ms clock : ℕ) (before : WorkerOf S) → before.clock_ms + 50 ≤ ms → clock + 50 ≤ ms → GivesTimeInTurn ms clock before

  -- if the worker did not for a second it does, whatever others have given
  abbrev pub TimeIsGivenByEach : Type 0
  TimeIsGivenByEach = (ms clock : ℕ) (before : WorkerOf S) → before.clock_ms + 1000 ≤ ms → GivesTimeInTurn ms clock before
