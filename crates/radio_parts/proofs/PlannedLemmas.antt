-- the outcome as planned, with the numbers of listeners moved or finished, is the outcome of the event
use Rattle.std.proofs.Common.{◌≡◌, ◌∙◌, ℕ, refl, ap, sym}
use Rattle.radio_events.specs.declared.command.Command.{Command as TheCommand}
use Rattle.radio_parts.proofs.Words.{MoveClients, KillClient, KillSource, SetTitle, SetFallback, AddUser, DeleteUser, CommandRequest, Event, Arrive, Source, Push, SourceEnd, Title, Listen, Draw, Command, Leave, RelayUp}
use Rattle.radio_parts.proofs.Words.{RelayDown, Clock, Reply, ReplyText, Carried, Outcome, obeys, hears_clock, draws, IsShownBy, counted, nobody, told_counts, with_counts, uncounted, planned, outcome, reply_to, Way}
use Rattle.radio_parts.proofs.Words.{Misplaced, IsFinished, IsDenied, IsRefused, IsAdmitted, Begins, ComesUp, Receives, SetsTitle, TakesSeat, HandsOut, Ends, EndsAndLeaves, Leaves, GoesDown, Obeys, Shows, HasPassed}
use Rattle.radio_parts.proofs.Words.{Ticks, World}
use Rattle.radio_events.specs.declared.reply.Reply.TheVariants.{Text as SaysText}
use Rattle.radio_parts.proofs.ListingLemmas.{shown_untold}
use Rattle.radio_parts.proofs.Ways.{way_of}

module _ (w : World) where
  -- only the reply to a command names a number
  plain_by : (event : Event) (o : Outcome) → Way w event o → ((asked : CommandRequest) → event ≡ Command asked → ⊥) → (counts : Carried)
      → with_counts o.reply counts ≡ o.reply
  plain_by event o (Misplaced _) other_than counts = refl
  plain_by event o (IsFinished _ id rule his told) other_than counts = refl
  plain_by event o (IsDenied _ rule v other) other_than counts = refl
  plain_by event o (IsRefused _ id rule v his undecided) other_than counts = refl
  plain_by event o (IsAdmitted peer allowed) other_than counts = refl
  plain_by event o (Begins asked undecided none allowed) other_than counts = refl
  plain_by event o (ComesUp mount shown none allowed) other_than counts = refl
  plain_by event o (Receives id mount block feeding) other_than counts = refl
  plain_by event o (SetsTitle id mount text feeding) other_than counts = refl
  plain_by event o (TakesSeat asked peer session undecided lands live allowed) other_than counts = refl
  plain_by event o (HandsOut id room seat session sits has live) other_than counts = refl
  plain_by event o (Ends id mount feeding no_relay) other_than counts = refl
  plain_by event o (EndsAndLeaves _ id mount closes feeding) other_than counts = refl
  plain_by event o (Leaves id no_relay other) other_than counts = refl
  plain_by event o (GoesDown id rule relay told) other_than counts = refl
  plain_by event o (Shows _ asker peer text its undecided what) other_than counts = ap (λ (t : ReplyText). SaysText t) (shown_untold w event text what counts)
  plain_by event o (Obeys _ command c) other_than counts = absurd (other_than c.asked c.is_event)
  plain_by event o (HasPassed ms e) other_than counts = refl
  plain_by event o (Ticks ms e) other_than counts = refl

  plain : (event : Event) → ((asked : CommandRequest) → event ≡ Command asked → ⊥) → outcome w event ≡ uncounted (outcome w event)
  plain event other_than = ap (λ (reply : Reply). record (outcome w event) { reply = reply }) (sym (plain_by event (outcome w event) (way_of w event) other_than nobody))

  pub planned_so : (event : Event) → planned w event ≡ uncounted (outcome w event)
  unfolding planned outcome
  planned_so (Arrive peer) = plain (Arrive peer) (λ asked e. cc)
  planned_so (Source request) = plain (Source request) (λ asked e. cc)
  planned_so (Push id block) = plain (Push id block) (λ asked e. cc)
  planned_so (SourceEnd id) = plain (SourceEnd id) (λ asked e. cc)
  planned_so (Title id text) = plain (Title id text) (λ asked e. cc)
  planned_so (Listen request) = plain (Listen request) (λ asked e. cc)
  planned_so (Draw id room) = plain (Draw id room) (λ asked e. cc)
  planned_so (Command request) = refl
  planned_so (Leave id) = plain (Leave id) (λ asked e. cc)
  planned_so (RelayUp mount shown) = plain (RelayUp mount shown) (λ asked e. cc)
  planned_so (RelayDown id) = plain (RelayDown id) (λ asked e. cc)
  planned_so (Clock ms) = plain (Clock ms) (λ asked e. cc)

  -- the reply to a draw names none
  pub draw_untold : (id room : ℕ) (counts : Carried) → with_counts (draws w id room).reply counts ≡ (draws w id room).reply
  unfolding outcome
  draw_untold id room counts = plain_by (Draw id room) (draws w id room) (way_of w (Draw id room)) (λ asked e. cc) counts

  pub draw_planned : (id room : ℕ) → planned w (Draw id room) ≡ draws w id room
  unfolding planned outcome
  draw_planned id room = refl

  pub clock_planned : (ms : ℕ) → planned w (Clock ms) ≡ hears_clock w ms
  unfolding planned outcome
  clock_planned ms = refl

  abbrev IsCompleted : Outcome → Type 0
  IsCompleted o = with_counts (uncounted o).reply (counted w o.change) ≡ o.reply

  obeys_completed : (id : ℕ) (command : TheCommand) → IsCompleted (obeys w id command)
  obeys_completed id (MoveClients mount destination) = refl
  obeys_completed id (KillClient mount listener) = refl
  obeys_completed id (KillSource mount) = refl
  obeys_completed id (SetTitle mount text) = refl
  obeys_completed id (SetFallback mount fallback) = refl
  obeys_completed id (AddUser mount user password) = refl
  obeys_completed id (DeleteUser mount user) = refl

  shows_completed : (event : Event) (text : ReplyText) → IsShownBy w event text → with_counts (with_counts (SaysText text) nobody) nobody ≡ SaysText text
  shows_completed event text what =
      ap (λ (t : ReplyText). SaysText (told_counts t nobody)) (shown_untold w event text what nobody) ∙ ap (λ (t : ReplyText). SaysText t) (shown_untold w event text what nobody)

  completed_by : (event : Event) (o : Outcome) → Way w event o → IsCompleted o
  completed_by event o (Misplaced _) = refl
  completed_by event o (IsFinished _ id rule his told) = refl
  completed_by event o (IsDenied _ rule v other) = refl
  completed_by event o (IsRefused _ id rule v his undecided) = refl
  completed_by event o (IsAdmitted peer allowed) = refl
  completed_by event o (Begins asked undecided none allowed) = refl
  completed_by event o (ComesUp mount shown none allowed) = refl
  completed_by event o (Receives id mount block feeding) = refl
  completed_by event o (SetsTitle id mount text feeding) = refl
  completed_by event o (TakesSeat asked peer session undecided lands live allowed) = refl
  completed_by event o (HandsOut id room seat session sits has live) = refl
  completed_by event o (Ends id mount feeding no_relay) = refl
  completed_by event o (EndsAndLeaves _ id mount closes feeding) = refl
  completed_by event o (Leaves id no_relay other) = refl
  completed_by event o (GoesDown id rule relay told) = refl
  completed_by event o (Shows _ asker peer text its undecided what) = shows_completed event text what
  completed_by event o (Obeys _ command c) = obeys_completed c.asked.id command
  completed_by event o (HasPassed ms e) = refl
  completed_by event o (Ticks ms e) = refl

  pub completed_so : (event : Event) → IsCompleted (outcome w event)
  completed_so event = completed_by event (outcome w event) (way_of w event)

-- the reply to a plan that is carried out is the reply to the event
pub told_by_plan : (w : World) (event : Event) → with_counts (planned w event).reply (counted w (planned w event).change) ≡ reply_to w event
unfolding reply_to
told_by_plan w event = ap (λ (x : Outcome). with_counts x.reply (counted w x.change)) (planned_so w event) ∙ completed_so w event
