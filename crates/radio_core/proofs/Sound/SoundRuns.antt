-- every state of a run is sound
use Rattle.std.proofs.Common.{◌≡◌, ℕ, List, [], ◌∷◌, refl, ap, sym, subst, ◌∙◌}
use Rattle.radio_core.proofs.Words.{bytes_eq, and_parts, bytes_eq-Decides, Lagged, Settings, Lists, Event, Push, Feeds, Outcome, World, opening, standing_of, changed, laggards_ended, block_received, ticked, is_taken_in}
use Rattle.radio_core.proofs.Words.{received, live_end, Cause, IsFarBehind, Session, lags_behind, world_after_all, run_after, IsSound, shown_for, outcome, world_after, Way, Misplaced, IsFinished, IsDenied, IsRefused}
use Rattle.radio_core.proofs.Words.{IsAdmitted, Begins, ComesUp, Receives, SetsTitle, TakesSeat, HandsOut, Ends, EndsAndLeaves, Leaves, GoesDown, Obeys, Shows, HasPassed, Ticks, in_order, way_of}
use Rattle.radio_core.proofs.Sound.Soundness.{sound_answered, sound_forgotten, sound_admitted, sound_sits}
use Rattle.radio_core.proofs.Clients.CalledHome.{sound_up, sound_risen}
use Rattle.radio_core.proofs.Sound.SoundSessions.{sound_grown, sound_heard}
use Rattle.radio_core.proofs.Sound.SoundTitles.{sound_titled}
use Rattle.radio_core.proofs.Clients.Fates.{Fates, HasEnded, Nobody, sound_fates, seats_fates}
use Rattle.radio_core.proofs.Sessions.TickLemmas.{ClockCause, ClockCarries, ticked_fates}
use Rattle.radio_core.proofs.Sound.SoundEnds.{sound_ended, sound_ended_and_left}
use Rattle.radio_core.proofs.Clients.Obeyed.{sound_obeyed}

-- a block has come, and who is too far behind has lost its seat
abbrev pub grown_world : World → List ℕ → List ℕ → World
grown_world w mount block = record w { station = received w.station mount block }

-- by a block nobody is moved
abbrev pub NoMove : ℕ → Session → Type 0
NoMove id session = ⊥

pub lag_fates : (w : World) → IsSound w → (mount block : List ℕ) (him : ℕ) → standing_of w him ≡ Feeds mount
    → Fates (Cause w (block_received w mount block) (Push him block)) NoMove Nobody HasEnded (grown_world w mount block) (block_received w mount block)
lag_fates w s mount block him feeding =
    let station = received w.station mount block in
    let queue = w.station.settings.limits.queue_size in
    subst (λ (later : World). Fates (Cause w later (Push him block)) NoMove Nobody HasEnded (grown_world w mount block) later)
    (sym (is_taken_in w mount block))
    (seats_fates (Cause w (laggards_ended (grown_world w mount block) mount) (Push him block)) NoMove Nobody HasEnded (grown_world w mount block)
    (sound_grown w s mount block him feeding) (lags_behind mount (live_end station mount) queue) Lagged
    (λ id seat has behind.
    let there : seat.mount ≡ mount = (bytes_eq-Decides seat.mount mount).0 (and_parts (bytes_eq seat.mount mount) _ behind).0 in
    IsFarBehind him block seat refl (feeding ∙ ap (λ (m : List ℕ). Feeds m) (sym there)) has
    (ap (λ (m : List ℕ). lags_behind m (live_end station m) queue seat) there ∙ behind)))

sound_by : (w : World) → IsSound w → (event : Event) (o : Outcome) → Way w event o → IsSound (changed w o.change)
sound_by w s event o (Misplaced _) = s
sound_by w s event o (IsFinished _ id rule his told) = s
sound_by w s event o (IsDenied _ rule v other) = s
sound_by w s event o (IsRefused _ id rule v his undecided) = sound_answered w s id undecided.0 undecided.1
sound_by w s event o (IsAdmitted peer allowed) = sound_admitted w s peer
sound_by w s event o (Begins asked undecided none allowed) =
    sound_up w s asked.id asked.mount (shown_for w.station asked.mount asked.shown) undecided.0 undecided.1 none
sound_by w s event o (ComesUp mount shown none allowed) = sound_risen w s mount (shown_for w.station mount shown) none
sound_by w s event o (Receives id mount block feeding) = sound_fates (Cause w (block_received w mount block) (Push id block)) NoMove Nobody HasEnded
    (grown_world w mount block) (block_received w mount block) (sound_grown w s mount block id feeding) (lag_fates w s mount block id feeding)
sound_by w s event o (Shows _ asker peer text its undecided what) = sound_answered w s asker peer undecided
sound_by w s event o (Obeys _ command c) = sound_obeyed w s event command c
sound_by w s event o (HasPassed ms e) = s
sound_by w s event o (Ticks ms e) =
    sound_fates (ClockCause w s ms) (ClockCarries w s ms) Nobody HasEnded w (ticked w ms) s (ticked_fates w s ms)
sound_by w s event o (SetsTitle id mount text feeding) = sound_titled w s mount text id feeding
sound_by w s event o (TakesSeat asked peer session undecided lands live allowed) = sound_sits w s asked peer session undecided live
sound_by w s event o (HandsOut id room seat session sits has live) = sound_heard w s id room seat session sits has live
sound_by w s event o (Ends id mount feeding no_relay) = sound_ended w s id mount feeding no_relay
sound_by w s event o (EndsAndLeaves _ id mount closes feeding) = sound_ended_and_left w s id mount feeding event closes
sound_by w s event o (Leaves id no_relay other) = sound_forgotten w s id other
sound_by w s event o (GoesDown id rule relay told) = sound_forgotten w s id (λ mount feeds. cc)

pub sound_after : (w : World) → IsSound w → (event : Event) → IsSound (world_after w event)
unfolding world_after
sound_after w s event = sound_by w s event (outcome w event) (way_of w event)

pub sound_after_all : (w : World) → IsSound w → (events : List Event) → IsSound (world_after_all w events)
sound_after_all w s [] = s
sound_after_all w s (event ∷ events) = sound_after_all (world_after w event) (sound_after w s event) events

pub sound_opening : (settings : Settings) (lists : Lists) → IsSound (opening settings lists)
sound_opening settings lists = record {
  numbered = λ id h. refl;
  from_one = refl;
  feeds = λ id mount e. cc;
  fed = λ mount session e. cc;
  apart = tt;
  starts = λ mount session e. cc;
  by_number = in_order [] tt;
  sitting = λ id seat e. cc;
  seated = λ id seat e. cc;
}

pub sound_run : (settings : Settings) (lists : Lists) (events : List Event) → IsSound (run_after settings lists events)
sound_run settings lists events = sound_after_all (opening settings lists) (sound_opening settings lists) events
