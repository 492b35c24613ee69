-- the outcome of an event in states that agree on all that it can reach
use Rattle.std.proofs.Common.{◌≡◌, Bool, true, false, ℕ, Option, Some, None, List, refl, ap, sym, ◌∙◌}
use Rattle.radio_laws.proofs.Words.{option_map_or, bytes_eq, Peer, Credentials, WebPath, IcecastStatus, web_path, verdict_in, Listener, Seat, seat_in, seat_of, sits_last, Session, WalkFinding, Landing, Lands, Stops, To}
use Rattle.radio_laws.proofs.Words.{Asked, MoveClients, KillClient, KillSource, SetFallback, AddUser, DeleteUser, Status, Stats, Mounts, Clients, Streams, Event, Arrive, Source, Push, SourceEnd, Title, Listen, Draw}
use Rattle.radio_laws.proofs.Words.{Command, Leave, RelayUp, RelayDown, Clock, ListenRequest, Nothing, Answer, Standing, Unknown, Sits, client_of, does_asked, facts_asked, needs_of, is_listener_at, hands_out_at}
use Rattle.radio_laws.proofs.Words.{draws_so, rows_to_push, rows_to_listen, walks_to, listen_outcome, sits_where, if_undecided, if_feeding, if_sitting, on_verdict, asks_by, asks_by_path, takes_in, relay_of, outcome}
use Rattle.radio_laws.proofs.Words.{World, standing_of, standing_of_found, IsAll, IsWithinReach, LastWithin, AsksWithin, HearsWithin, FallBackWithin, WalksWithin, Lists, with_user_at, without_user_at, how_many}
use Rattle.radio_laws.proofs.Words.{is_shut_out}
use Rattle.radio_settings_values.specs.declared.web.WebPath.TheVariants.{Page as AtPage}
use Rattle.radio_events.specs.declared.command.Asked.TheVariants.{NoCommand, MissingArgument, Listing as AsksFor, Command as Asks}
use Rattle.radio_events.specs.declared.command.Command.{Command as TheCommand}
use Rattle.radio_events.specs.declared.command.Command.TheVariants.{SetTitle}
use Rattle.radio_parts_station.specs.declared.standing.Standing.TheVariants.{Undecided as IsUndecided, Feeds as IsFeeding, Answered as IsAnswered, Finished}
use Rattle.radio_laws.proofs.Locality.Agreeing.{beyond, SessionsDo, as_many_live, live_alike, session_alike, all_sessions, ListenersDo, SeatsAgree, SameSeat, BothBeyond}
use Rattle.radio_laws.proofs.Locality.Agreeing.{listener_same, seat_alike, guests_alike, all_listeners, IsBeyond}
use Rattle.radio_laws.proofs.Locality.AgreeingWalks.{Onward, found_alike, landing_alike, lands_within, counts_alike}
use Rattle.radio_laws.proofs.Seats.WalkLemmas.{falls_back}
use Rattle.radio_laws.proofs.Listings.WebLaws.{is_path}
use Rattle.radio_laws.proofs.Locality.Agreeing.{none_out, how_many_alike}

-- the state with these sessions and listeners in place of its own
abbrev pub in_place : World → List Session → List Listener → World
in_place w live seats = record { station = record w.station { live = live }; seats = seats }

-- a mount within reach falls back to one within reach
pub onward_by : (within : List ℕ → Bool) (w : World) → FallBackWithin w within → (live : List Session) (r : SessionsDo within live w.station.live) → Onward within w live r
onward_by within w closed live r mount next near e = closed mount next near (falls_back w mount next e)

module _ (within : List ℕ → Bool) (w : World) (live : List Session) (seats : List Listener) (r : SessionsDo within live w.station.live) (s : ListenersDo within seats w.seats) where
  abbrev v : World
  v = in_place w live seats

  -- if all mounts are within reach, the states are the same
  pub all_one : IsAll within → v ≡ w
  all_one all = by_parts live seats (all_sessions within live w.station.live r all) (all_listeners within seats w.seats s all) where
    by_parts : (l : List Session) (t : List Listener) → l ≡ w.station.live → t ≡ w.seats → in_place w l t ≡ w
    by_parts l t e f = rw (e, f) refl

  -- the standing of a client

  pub standing_alike : (id : ℕ) → LastWithin w within id → standing_of v id ≡ standing_of w id
  standing_alike id near = ap (λ (found : Option Listener). standing_of_found (relay_of w.station.relays id) found (client_of w.station.clients id)) (listener_same within seats w.seats s id near)

  -- a block
  pushes : (id : ℕ) (block : List ℕ) (now : Standing) → standing_of w id ≡ now → ((mount : List ℕ) → standing_of w id ≡ IsFeeding mount → within mount ≡ true)
      → if_feeding now (λ mount. on_verdict (verdict_in (rows_to_push v.station mount block)) Nothing (takes_in mount block))
      ≡ if_feeding now (λ mount. on_verdict (verdict_in (rows_to_push w.station mount block)) Nothing (takes_in mount block))
  pushes id block (IsFeeding mount) e near = rw (session_alike within live w.station.live r mount (near mount e)) refl
  pushes id block Unknown e near = refl
  pushes id block (IsUndecided peer) e near = refl
  pushes id block Sits e near = refl
  pushes id block IsAnswered e near = refl
  pushes id block (Finished rule) e near = refl

  -- a draw
  draws_at : (id room : ℕ) (has : Option Seat) → ((seat : Seat) → has ≡ Some seat → within seat.mount ≡ true) → hands_out_at v.station id room has ≡ hands_out_at w.station id room has
  draws_at id room None near = refl
  draws_at id room (Some seat) near = rw (session_alike within live w.station.live r seat.mount (near seat refl)) refl

  draws_by : (id room : ℕ) → LastWithin w within id → hands_out_at v.station id room (seat_of seats id) ≡ hands_out_at w.station id room (seat_of w.seats id)
  draws_by id room near =
      ap (λ (found : Option Listener). hands_out_at v.station id room (seat_in found)) (listener_same within seats w.seats s id near)
      ∙ draws_at id room (seat_of w.seats id) (λ seat has. near seat.mount (sits_last w.seats id seat has))

  -- a listener's request
  module _ (asked : ListenRequest) (walks : WalksWithin w within asked.mount) (his : LastWithin w within asked.id) where
    walk_same : walks_to v.station v.seats asked.mount asked.pair ≡ walks_to w.station w.seats asked.mount asked.pair
    walk_same = landing_alike within w live r seats w.seats s (onward_by within w walks.onward live r) asked.mount asked.pair walks.there

    rows_same : rows_to_listen v asked ≡ rows_to_listen w asked
    rows_same =
        let is_live = live_alike within live w.station.live r asked.mount in
        let found = found_alike within w live r seats w.seats s asked.mount asked.pair walks.there in
        let twice = ap (λ (f : WalkFinding). f.user_is_twice) found in
        rw (is_live, twice, walk_same) refl

    sits_alike : (peer : Peer) (where_he_lands : Landing) → walks_to w.station w.seats asked.mount asked.pair ≡ where_he_lands
        → sits_where v.station asked peer where_he_lands ≡ sits_where w.station asked peer where_he_lands
    sits_alike peer (Stops rule) e = refl
    sits_alike peer (Lands mount) e =
        let near = lands_within within w live r seats w.seats s (onward_by within w walks.onward live r) asked.mount mount asked.pair walks.there e in
        rw (session_alike within live w.station.live r mount near) refl

    hears : listen_outcome v asked ≡ listen_outcome w asked
    hears =
        rw (standing_alike asked.id his, rows_same, walk_same) (by_standing (standing_of w asked.id)) where
          by_standing : (now : Standing)
              → if_undecided now (λ peer. on_verdict (verdict_in (rows_to_listen w asked)) (Answer asked.id)
              (sits_where v.station asked peer (walks_to w.station w.seats asked.mount asked.pair)))
              ≡ if_undecided now (λ peer. on_verdict (verdict_in (rows_to_listen w asked)) (Answer asked.id)
              (sits_where w.station asked peer (walks_to w.station w.seats asked.mount asked.pair)))
          by_standing (IsUndecided peer) =
              ap (on_verdict (verdict_in (rows_to_listen w asked)) (Answer asked.id))
              (sits_alike peer (walks_to w.station w.seats asked.mount asked.pair) refl)
          by_standing Unknown = refl
          by_standing (IsFeeding mount) = refl
          by_standing Sits = refl
          by_standing IsAnswered = refl
          by_standing (Finished rule) = refl

  listens : (asked : ListenRequest) → HearsWithin w within asked.mount → LastWithin w within asked.id → asks_by_path v asked ≡ asks_by_path w asked
  listens asked near his = by_path (web_path w.station.settings.web asked.mount) refl where
    by_path : (path : Option WebPath) → web_path w.station.settings.web asked.mount ≡ path → asks_by v asked path ≡ asks_by w asked path
    by_path None e = hears asked near.walks his
    by_path (Some IcecastStatus) e = ap (λ (x : World). asks_by x asked (Some IcecastStatus)) (all_one (near.status (is_path w asked.mount IcecastStatus e)))
    by_path (Some AtPage) e = rw (standing_alike asked.id his) refl

  -- a command

  sits_same : (mount : List ℕ) (listener : ℕ) → within mount ≡ true → is_listener_at seats mount listener ≡ is_listener_at w.seats mount listener
  sits_same mount listener near = by_seats (seat_of seats listener) (seat_of w.seats listener) (seat_alike within seats w.seats s listener) where
    not_there : (x : Option Seat) → IsBeyond within x → option_map_or (λ (seat : Seat). bytes_eq seat.mount mount) x false ≡ false
    not_there None out = refl
    not_there (Some seat) out = beyond within seat.mount mount out near

    by_seats : (x y : Option Seat) → SeatsAgree within x y
        → option_map_or (λ (seat : Seat). bytes_eq seat.mount mount) x false ≡ option_map_or (λ (seat : Seat). bytes_eq seat.mount mount) y false
    by_seats _ _ (SameSeat seat) = refl
    by_seats _ _ (BothBeyond a b out away) = not_there a out ∙ sym (not_there b away)

  needs_alike : (command : TheCommand) → AsksWithin w within (Asks command) → needs_of v command ≡ needs_of w command
  needs_alike (MoveClients mount destination) near =
      rw (live_alike within live w.station.live r mount, live_alike within live w.station.live r destination) refl
  needs_alike (KillClient mount listener) near = rw (live_alike within live w.station.live r mount, sits_same mount listener near) refl
  needs_alike (KillSource mount) near = rw (live_alike within live w.station.live r mount) refl
  needs_alike (SetTitle mount title) near = rw (live_alike within live w.station.live r mount) refl
  needs_alike (SetFallback mount fallback) near = rw (live_alike within live w.station.live r mount) refl
  needs_alike (AddUser mount user password) near = refl
  needs_alike (DeleteUser mount user) near = refl

  facts_alike : (asked : Asked) (pair : Option Credentials) → AsksWithin w within asked → facts_asked v asked pair ≡ facts_asked w asked pair
  facts_alike NoCommand pair near = refl
  facts_alike (MissingArgument by) pair near = refl
  facts_alike (AsksFor (Clients mount)) pair near = rw (live_alike within live w.station.live r mount) refl
  facts_alike (AsksFor Status) pair near = refl
  facts_alike (AsksFor Stats) pair near = refl
  facts_alike (AsksFor Mounts) pair near = refl
  facts_alike (AsksFor Streams) pair near = refl
  facts_alike (Asks command) pair near = rw (needs_alike command near) refl

  -- equally many listeners sit at a mount within reach whom its users do not let in
  out_alike : (lists : Lists) (mount : List ℕ) → within mount ≡ true → how_many (is_shut_out lists mount) seats ≡ how_many (is_shut_out lists mount) w.seats
  out_alike lists mount near = how_many_alike within seats w.seats s (is_shut_out lists mount) (λ seat out. none_out within lists mount seat out near)

  does_alike : (asked : Asked) (id : ℕ) → AsksWithin w within asked → does_asked v id asked ≡ does_asked w id asked
  does_alike NoCommand id near = refl
  does_alike (MissingArgument by) id near = refl
  does_alike (AsksFor (Clients mount)) id near = rw (guests_alike within seats w.seats s mount near) refl
  does_alike (AsksFor Status) id near = ap (λ (x : World). does_asked x id (AsksFor Status)) (all_one near)
  does_alike (AsksFor Stats) id near = ap (λ (x : World). does_asked x id (AsksFor Stats)) (all_one near)
  does_alike (AsksFor Mounts) id near = ap (λ (x : World). does_asked x id (AsksFor Mounts)) (all_one near)
  does_alike (AsksFor Streams) id near = ap (λ (x : World). does_asked x id (AsksFor Streams)) (all_one near)
  does_alike (Asks (MoveClients mount destination)) id near =
      rw (counts_alike within w live r (To mount destination) near seats w.seats s) refl
  does_alike (Asks (KillClient mount listener)) id near = refl
  does_alike (Asks (KillSource mount)) id near = refl
  does_alike (Asks (SetTitle mount title)) id near = refl
  does_alike (Asks (SetFallback mount fallback)) id near = refl
  does_alike (Asks (AddUser mount user password)) id near =
      rw (out_alike (with_user_at w.station.lists mount user password) mount near) refl
  does_alike (Asks (DeleteUser mount user)) id near = rw (out_alike (without_user_at w.station.lists mount user) mount near) refl

  pub outcome_alike : (event : Event) → IsWithinReach w within event → outcome v event ≡ outcome w event
  unfolding outcome
  outcome_alike (Arrive peer) near = refl
  outcome_alike (Source asked) near =
      rw (standing_alike asked.id (near.client asked.id refl), as_many_live within live w.station.live r, live_alike within live w.station.live r asked.mount) refl
  outcome_alike (Push id block) near = rw (standing_alike id (near.client id refl)) (pushes id block (standing_of w id) refl near.reached)
  outcome_alike (SourceEnd id) near = rw (standing_alike id (near.client id refl)) refl
  outcome_alike (Title id text) near = rw (standing_alike id (near.client id refl)) refl
  outcome_alike (Listen asked) near = listens asked near.reached (near.client asked.id refl)
  outcome_alike (Draw id room) near =
      draws_so v id room
      ∙ rw (standing_alike id (near.client id refl)) (ap (if_sitting (standing_of w id)) (draws_by id room (near.client id refl)))
      ∙ sym (draws_so w id room)
  outcome_alike (Command asked) near =
      rw (standing_alike asked.id (near.client asked.id refl), facts_alike asked.asked asked.pair near.reached, does_alike asked.asked asked.id near.reached) refl
  outcome_alike (Leave id) near = rw (standing_alike id (near.client id refl)) refl
  outcome_alike (RelayUp mount shown) near =
      rw (as_many_live within live w.station.live r, live_alike within live w.station.live r mount) refl
  outcome_alike (RelayDown id) near = rw (standing_alike id (near.client id refl)) refl
  outcome_alike (Clock ms) near = refl
