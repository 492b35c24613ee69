-- what all mounts have in common changes by the event and its reply alone
use Rattle.std.proofs.Common.{◌≡◌, ◌∙◌, ◌+◌, Bool, true, false, ℕ, Option, None, Some, List, [], ◌∷◌, refl, ap, sym, subst}
use Rattle.radio_parts.proofs.Words.{fold, nat_lt, if◌then◌else◌, answered, before_silence, session_begun, session_killed, session_raised, session_silenced, silent_in, kept_changed, Change, Obey, counts_by, nobody}
use Rattle.radio_parts.proofs.Words.{CanStep, hears_clock, Closes, OfClient, OfRelay, said_of, Common, common_after, common_asked, common_at, common_done, common_numbered, common_of, common_told, moves_to, IsMove}
use Rattle.radio_parts.proofs.Words.{IsShownBy, IsListing, IsAtPath, planned, told_counts, with_counts, outcome, Way, Misplaced, IsFinished, IsDenied, IsRefused, IsAdmitted, Begins, ComesUp, Receives, SetsTitle}
use Rattle.radio_parts.proofs.Words.{TakesSeat, HandsOut, Ends, EndsAndLeaves, Leaves, GoesDown, Obeys, Shows, HasPassed, Ticks, Outcome, Asked, MoveClients, KillClient, KillSource, SetFallback, AddUser, DeleteUser}
use Rattle.radio_parts.proofs.Words.{Event, Arrive, Source, Push, SourceEnd, Title, Listen, Draw, Command, Leave, RelayUp, RelayDown, Clock, Reply, Arrived, Feeding, Seated, Drawn, Noted, Deny, Stray, ReplyText, Carried}
use Rattle.radio_parts.proofs.Words.{StationState, World, Session, session_of, Rule}
use Rattle.radio_parts.proofs.PlannedLemmas.{planned_so, clock_planned}
use Rattle.radio_parts.proofs.Ways.{way_of}
use Rattle.radio_parts.proofs.CalledStation.{station_called}
use Rattle.radio_parts.specs.Allowed.{IsCommanded}
use Rattle.radio_events.specs.declared.command.Command.{Command as TheCommand}
use Rattle.radio_events.specs.declared.command.Command.TheVariants.{SetTitle as NewTitle}
use Rattle.radio_events.specs.declared.reply.Reply.TheVariants.{Text as SaysText, Finished}
use Rattle.radio_parts_station.specs.Streams.{shown_for}

module _ (common : Common) where
  -- a reply that gives no number, no text and no new time changes nothing
  kept_by : (reply : Reply) → common_numbered common reply ≡ common → ((asked : Asked) → common_told common asked reply ≡ common)
      → ((ms : ℕ) → common_at common ms reply ≡ common) → (event : Event) → common_after common event reply ≡ common
  kept_by reply numbered told at (Arrive peer) = numbered
  kept_by reply numbered told at (Source asked) = refl
  kept_by reply numbered told at (Push id block) = refl
  kept_by reply numbered told at (SourceEnd id) = refl
  kept_by reply numbered told at (Title id text) = refl
  kept_by reply numbered told at (Listen asked) = refl
  kept_by reply numbered told at (Draw id room) = refl
  kept_by reply numbered told at (Command asked) = told asked.asked
  kept_by reply numbered told at (Leave id) = refl
  kept_by reply numbered told at (RelayUp mount shown) = numbered
  kept_by reply numbered told at (RelayDown id) = refl
  kept_by reply numbered told at (Clock ms) = at ms

  kept_astray : (event : Event) → common_after common event Stray ≡ common
  kept_astray event = kept_by Stray refl (λ asked. refl) (λ ms. refl) event

  kept_finished : (rule : Rule) (event : Event) → common_after common event (Finished rule) ≡ common
  kept_finished rule event = kept_by (Finished rule) refl (λ asked. refl) (λ ms. refl) event

  kept_denied : (rule : Rule) (event : Event) → common_after common event (Deny rule) ≡ common
  kept_denied rule event = kept_by (Deny rule) refl (λ asked. refl) (λ ms. refl) event

  -- how many were moved, or have finished, does not matter
  text_same : (event : Event) (text other : ReplyText) → common_after common event (SaysText text) ≡ common_after common event (SaysText other)
  text_same (Arrive peer) text other = refl
  text_same (Source asked) text other = refl
  text_same (Push id block) text other = refl
  text_same (SourceEnd id) text other = refl
  text_same (Title id said) text other = refl
  text_same (Listen asked) text other = refl
  text_same (Draw id room) text other = refl
  text_same (Command asked) text other = refl
  text_same (Leave id) text other = refl
  text_same (RelayUp mount shown) text other = refl
  text_same (RelayDown id) text other = refl
  text_same (Clock ms) text other = refl

  count_same : (event : Event) (reply : Reply) (counts : Carried) → common_after common event (with_counts reply counts) ≡ common_after common event reply
  count_same event (SaysText text) counts = text_same event (told_counts text counts) text
  count_same event (Arrived id) counts = refl
  count_same event Feeding counts = refl
  count_same event (Seated interval head) counts = refl
  count_same event (Drawn bytes title) counts = refl
  count_same event Noted counts = refl
  count_same event (Deny rule) counts = refl
  count_same event (Finished rule) counts = refl
  count_same event Stray counts = refl

-- the ends of sessions change nothing
silenced_common : (w : World) (sessions : List Session) → common_of (fold session_silenced w sessions) ≡ common_of w
silenced_common w [] = refl
silenced_common w (session ∷ sessions) = silenced_common (session_silenced w session) sessions

killed_common : (w : World) (found : Option Session) → common_of (session_killed w found) ≡ common_of w
killed_common w None = refl
killed_common w (Some session) = refl

-- a moment that has not passed
later_time : (common : Common) (ms : ℕ) → nat_lt ms common.time ≡ false → record common { time = ms } ≡ common_at common ms Noted
later_time common ms not_passed = ap (λ (b : Bool). record common { time = (if b then common.time else ms) }) (sym not_passed)

passed_time : (common : Common) (ms : ℕ) → nat_lt ms common.time ≡ true → common ≡ common_at common ms Noted
passed_time common ms passed = ap (λ (b : Bool). record common { time = (if b then common.time else ms) }) (sym passed)

module _ (w : World) where
  obeyed_common : (id : ℕ) (command : TheCommand) → common_of (kept_changed w (Obey id command)) ≡ common_done (common_of w) command
  obeyed_common id (MoveClients mount destination) = refl
  obeyed_common id (KillClient mount listener) = refl
  obeyed_common id (KillSource mount) = killed_common (answered w id) (session_of w.station.live mount)
  obeyed_common id (NewTitle mount title) = refl
  obeyed_common id (SetFallback mount fallback) = refl
  obeyed_common id (AddUser mount user password) = refl
  obeyed_common id (DeleteUser mount user) = refl

  -- a command that is done
  commanded_common : (event : Event) (command : TheCommand) (c : IsCommanded w event command) (text : ReplyText)
      → common_after (common_of w) event (SaysText text) ≡ common_done (common_of w) command
  commanded_common event command c text =
      ap (λ (e : Event). common_after (common_of w) e (SaysText text)) c.is_event ∙ ap (λ (a : Asked). common_asked (common_of w) a) c.is_asked

  -- what is shown is no command
  shown_common : (event : Event) (text : ReplyText) → IsShownBy w event text → common_after (common_of w) event (SaysText text) ≡ common_of w
  shown_common event text (IsListing listing listed) =
      ap (λ (e : Event). common_after (common_of w) e (SaysText text)) listed.is_event ∙ ap (λ (a : Asked). common_asked (common_of w) a) listed.is_asked
  shown_common event text (IsAtPath asked path is_listen at) = ap (λ (e : Event). common_after (common_of w) e (SaysText text)) is_listen

  closing_common : (id : ℕ) (event : Event) → Closes w id event → common_after (common_of w) event Noted ≡ common_of w
  closing_common id event (OfClient _) = refl
  closing_common id event (OfRelay _) = refl

  common_by_way : (event : Event) (o : Outcome) → Way w event o → common_of (kept_changed w o.change) ≡ common_after (common_of w) event o.reply
  common_by_way event o (Misplaced _) = sym (kept_astray (common_of w) event)
  common_by_way event o (IsFinished _ id rule his told) = sym (kept_finished (common_of w) rule event)
  common_by_way event o (IsDenied _ rule v other) = sym (kept_denied (common_of w) rule event)
  common_by_way event o (IsRefused _ id rule v his undecided) = sym (kept_denied (common_of w) rule event)
  common_by_way event o (IsAdmitted peer allowed) = refl
  common_by_way event o (Begins asked undecided none allowed) =
      ap (λ (h : StationState). common_of (record w { station = h })) (station_called (session_begun w asked.id asked.mount (shown_for w.station asked.mount asked.shown)) asked.mount)
  common_by_way event o (ComesUp mount shown none allowed) =
      ap (λ (h : StationState). common_of (record w { station = h })) (station_called (session_raised w (w.station.last_id + 1) mount (shown_for w.station mount shown)) mount)
  common_by_way event o (Receives id mount block feeding) = refl
  common_by_way event o (SetsTitle id mount text feeding) = refl
  common_by_way event o (TakesSeat asked peer session undecided lands live allowed) = refl
  common_by_way event o (HandsOut id room seat session sits has live) = refl
  common_by_way event o (Ends id mount feeding no_relay) = refl
  common_by_way event o (EndsAndLeaves _ id mount closes feeding) = sym (closing_common id event closes)
  common_by_way event o (Leaves id no_relay other) = refl
  common_by_way event o (GoesDown id rule relay told) = refl
  common_by_way event o (Obeys _ command c) =
      obeyed_common c.asked.id command ∙ sym (commanded_common event command c (said_of command (counts_by w command)))
  common_by_way event o (Shows _ asker peer text its undecided what) = sym (shown_common event text what)
  common_by_way event o (HasPassed ms passed) = passed_time (common_of w) ms passed
  common_by_way event o (Ticks ms not_passed) =
      silenced_common (before_silence w ms) (silent_in (before_silence w ms)) ∙ later_time (common_of w) ms not_passed

  -- with any number in its reply
  pub common_planned : (event : Event) (counts : Carried)
      → common_of (kept_changed w (planned w event).change) ≡ common_after (common_of w) event (with_counts (planned w event).reply counts)
  common_planned event counts =
      let o = outcome w event in
      ap (λ (p : Outcome). common_of (kept_changed w p.change)) (planned_so w event)
      ∙ common_by_way event o (way_of w event)
      ∙ sym (count_same (common_of w) event o.reply nobody)
      ∙ sym (count_same (common_of w) event (with_counts o.reply nobody) counts)
      ∙ ap (λ (p : Outcome). common_after (common_of w) event (with_counts p.reply counts)) (sym (planned_so w event))

  common_if_so : (event : Event) (o : Outcome) (counts : Carried) → o ≡ planned w event
      → common_of (kept_changed w o.change) ≡ common_after (common_of w) event (with_counts o.reply counts)
  common_if_so event o counts so =
      subst (λ (p : Outcome). common_of (kept_changed w p.change) ≡ common_after (common_of w) event (with_counts p.reply counts)) (sym so) (common_planned event counts)

  -- a draw changes nothing of it
  pub common_drawn : (id : ℕ) (place : Option ℕ) → common_of (kept_changed w (moves_to id place)) ≡ common_of w
  common_drawn id None = refl
  common_drawn id (Some place) = refl

  -- and so with what was worked out, even of one who draws and cannot
  pub common_worked_out : (event : Event) (o : Outcome) (counts : Carried) → (CanStep w event → o ≡ planned w event)
      → ((id room : ℕ) → event ≡ Draw id room → IsMove id o.change)
      → common_of (kept_changed w o.change) ≡ common_after (common_of w) event (with_counts o.reply counts)
  common_worked_out (Draw id room) o counts worked drawn =
      let move = drawn id room refl in
      ap (λ (change : Change). common_of (kept_changed w change)) move.1 ∙ common_drawn id move.0
  common_worked_out (Arrive peer) o counts worked drawn = common_if_so (Arrive peer) o counts (worked tt)
  common_worked_out (Source asked) o counts worked drawn = common_if_so (Source asked) o counts (worked tt)
  common_worked_out (Push id block) o counts worked drawn = common_if_so (Push id block) o counts (worked tt)
  common_worked_out (SourceEnd id) o counts worked drawn = common_if_so (SourceEnd id) o counts (worked tt)
  common_worked_out (Title id text) o counts worked drawn = common_if_so (Title id text) o counts (worked tt)
  common_worked_out (Listen asked) o counts worked drawn = common_if_so (Listen asked) o counts (worked tt)
  common_worked_out (Command asked) o counts worked drawn = common_if_so (Command asked) o counts (worked tt)
  common_worked_out (Leave id) o counts worked drawn = common_if_so (Leave id) o counts (worked tt)
  common_worked_out (RelayUp mount shown) o counts worked drawn = common_if_so (RelayUp mount shown) o counts (worked tt)
  common_worked_out (RelayDown id) o counts worked drawn = common_if_so (RelayDown id) o counts (worked tt)
  common_worked_out (Clock ms) o counts worked drawn = common_if_so (Clock ms) o counts (worked tt)

  -- a clock
  pub common_clocked : (ms : ℕ) → common_of (kept_changed w (hears_clock w ms).change) ≡ common_after (common_of w) (Clock ms) Noted
  common_clocked ms =
      subst (λ (p : Outcome). common_of (kept_changed w p.change) ≡ common_after (common_of w) (Clock ms) (with_counts p.reply nobody)) (clock_planned w ms)
      (common_planned (Clock ms) nobody)
