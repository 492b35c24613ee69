-- each reply fits the client that gets it
use Rattle.std.proofs.Common.{◌≡◌, ℕ, ◌+◌, ◌<◌, List, Option, refl, ap, sym, ◌∙◌, arith}
use Rattle.radio_core.proofs.Words.{Peer, Shown, Event, Arrive, Source, Listen, RelayUp, SourceRequest, ListenRequest, Outcome, Arrived, Feeding, Seated, Unknown, Undecided, Feeds, Sits, World, standing_of, changed}
use Rattle.radio_core.proofs.Words.{shown_for, raises, first_seat, HasCome, AsClient, AsRelay, RepliesFit, IsSound, outcome, reply_to, world_after, Way, Misplaced, IsFinished, IsDenied, IsRefused, IsAdmitted, Begins}
use Rattle.radio_core.proofs.Words.{ComesUp, Receives, SetsTitle, TakesSeat, HandsOut, Ends, EndsAndLeaves, Leaves, GoesDown, Obeys, Shows, HasPassed, Ticks, IsUndecided, way_of}
use Rattle.radio_events.specs.declared.reply.StreamHead.{StreamHead}
use Rattle.radio_parts.specs.Arrive.{admits_client}
use Rattle.radio_core.proofs.Clients.FinishLemmas.{finished_told}
use Rattle.radio_core.proofs.Clients.CalledHome.{turns_up, turns_risen}
use Rattle.radio_core.proofs.Clients.Standings.{asks, turns_sitting, turns_admitted}

-- by which event a number was given, where this is the state after it
data Came (w later : World) (id : ℕ) : Event → Type 0 where
  ClientCame : (peer : Peer) → standing_of later id ≡ Undecided peer → Came w later id (Arrive peer)
  RelayCame : (mount : List ℕ) (shown : Shown) → standing_of later id ≡ Feeds mount → Came w later id (RelayUp mount shown)

record Fits (w : World) (event : Event) (o : Outcome) : Type 0 where
  pub arrived : (id : ℕ) → o.reply ≡ Arrived id → Came w (changed w o.change) id event × (w.station.last_id < id) × (standing_of w id ≡ Unknown)
  pub feeding : o.reply ≡ Feeding → (asked : SourceRequest) × (event ≡ Source asked) × IsUndecided w asked.id
      × (standing_of (changed w o.change) asked.id ≡ Feeds asked.mount)
  pub seated : (interval : Option ℕ) (head : StreamHead) → o.reply ≡ Seated interval head
      → (asked : ListenRequest) × (event ≡ Listen asked) × IsUndecided w asked.id × (standing_of (changed w o.change) asked.id ≡ Sits)

module _ (w : World) (s : IsSound w) where
  fits_by : (event : Event) (o : Outcome) → Way w event o → Fits w event o
  fits_by event o (IsAdmitted peer allowed) = record { arrived = his; feeding = λ d. cc; seated = λ interval shown d. cc } where
    his : (id : ℕ) → Arrived (w.station.last_id + 1) ≡ Arrived id
        → Came w (changed w (admits_client w peer).change) id (Arrive peer) × (w.station.last_id < id) × (standing_of w id ≡ Unknown)
    his id d =
        let same : w.station.last_id + 1 ≡ id = cc in
        let above : w.station.last_id < id = omega arith in (
          ClientCame peer
              (ap (standing_of (changed w (admits_client w peer).change)) (sym same) ∙ (turns_admitted w (w.station.last_id + 1) peer).his),
          above,
          s.numbered id above,
        )
  fits_by event o (ComesUp mount shown none allowed) = record { arrived = its; feeding = λ d. cc; seated = λ interval shown d. cc } where
    its : (id : ℕ) → Arrived (w.station.last_id + 1) ≡ Arrived id
        → Came w (changed w (raises w.station mount shown).change) id (RelayUp mount shown) × (w.station.last_id < id) × (standing_of w id ≡ Unknown)
    its id d =
        let same : w.station.last_id + 1 ≡ id = cc in
        let above : w.station.last_id < id = omega arith in (
          RelayCame mount shown
              (ap (standing_of (changed w (raises w.station mount shown).change)) (sym same) ∙ (turns_risen w s mount (shown_for w.station mount shown) none).his),
          above,
          s.numbered id above,
        )
  fits_by event o (Begins asked undecided none allowed) =
      let at = undecided.1 in
      record {
        arrived = λ id d. cc;
        feeding = λ d. (asked, refl, undecided, (turns_up w s asked.id asked.mount (shown_for w.station asked.mount asked.shown) undecided.0 undecided.1 none).his);
        seated =
            λ interval shown d. cc;
      }
  fits_by event o (TakesSeat asked peer session undecided lands live allowed) =
      record {
        arrived = λ id d. cc;
        feeding = λ d. cc;
        seated =
            λ interval shown d. (asked, refl, (peer, undecided), (turns_sitting w asked.id (first_seat w.station asked peer session) (asks w asked.id peer undecided)).his);
      }
  fits_by event o (Misplaced _) = record { arrived = λ id d. cc; feeding = λ d. cc; seated = λ interval shown d. cc }
  fits_by event o (IsFinished _ him by its known) = record { arrived = λ id d. cc; feeding = λ d. cc; seated = λ interval shown d. cc }
  fits_by event o (IsDenied _ by v nobody) = record { arrived = λ id d. cc; feeding = λ d. cc; seated = λ interval shown d. cc }
  fits_by event o (IsRefused _ him by v its undecided) = record { arrived = λ id d. cc; feeding = λ d. cc; seated = λ interval shown d. cc }
  fits_by event o (Receives him mount block feeding) = record { arrived = λ id d. cc; feeding = λ d. cc; seated = λ interval shown d. cc }
  fits_by event o (SetsTitle him mount text feeding) = record { arrived = λ id d. cc; feeding = λ d. cc; seated = λ interval shown d. cc }
  fits_by event o (Shows _ asker peer text its undecided what) = record { arrived = λ id d. cc; feeding = λ d. cc; seated = λ interval shown d. cc }
  fits_by event o (Obeys _ command c) = record { arrived = λ id d. cc; feeding = λ d. cc; seated = λ interval shown d. cc }
  fits_by event o (HasPassed ms e) = record { arrived = λ id d. cc; feeding = λ d. cc; seated = λ interval shown d. cc }
  fits_by event o (Ticks ms e) = record { arrived = λ id d. cc; feeding = λ d. cc; seated = λ interval shown d. cc }
  fits_by event o (HandsOut him room seat session sits has live) = record { arrived = λ id d. cc; feeding = λ d. cc; seated = λ interval shown d. cc }
  fits_by event o (Ends him mount feeding no_relay) = record { arrived = λ id d. cc; feeding = λ d. cc; seated = λ interval shown d. cc }
  fits_by event o (EndsAndLeaves _ him mount closes feeding) = record { arrived = λ id d. cc; feeding = λ d. cc; seated = λ interval shown d. cc }
  fits_by event o (Leaves him no_relay other) = record { arrived = λ id d. cc; feeding = λ d. cc; seated = λ interval shown d. cc }
  fits_by event o (GoesDown him rule relay told) = record { arrived = λ id d. cc; feeding = λ d. cc; seated = λ interval shown d. cc }

  has_come : (id : ℕ) (event : Event) → Came w (changed w (outcome w event).change) id event → HasCome w id event
  unfolding world_after
  has_come id event (ClientCame peer stands) = AsClient peer stands
  has_come id event (RelayCame mount shown stands) = AsRelay mount shown stands

  pub replies_fit : (event : Event) → RepliesFit w event
  unfolding reply_to world_after
  replies_fit event =
      let fits = fits_by event (outcome w event) (way_of w event) in
      record { arrived = λ id d. let came = fits.arrived id d in (has_come id event came.0, came.1, came.2); feeding = fits.feeding; seated = fits.seated; finished = finished_told w event }
