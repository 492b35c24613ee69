-- the law of service
use Rattle.std.proofs.Common.{◌≡◌, ◌↔◌, Bool, true, false, ℕ, ◌+◌, ◌-◌, ◌==◌, Option, Some, None, is_some, List, length, drop, refl, ap, sym, subst, ◌∙◌, arith}
use Rattle.radio_laws.proofs.Words.{min, if◌then◌else◌, nat_tests, length-take, length-drop, Rule, Verdict, Allow, Row, verdict_in, Allows, Peer, Event, Arrive, Source, Push, SourceEnd, Title, Listen, Draw, RelayUp}
use Rattle.radio_laws.proofs.Words.{RelayDown, SourceRequest, ListenRequest, Change, Nothing, SetTitle, End, EndAndLeave, Outcome, Noted, Stray, Seat, Standing, Unknown, Undecided, Feeds, Sits, Answered, World}
use Rattle.radio_laws.proofs.Words.{standing_of, has_relay, changed, Lands, rows_to_arrive, rows_to_feed, rows_to_raise, rows_to_push, rows_to_listen, walks_to, ComesBy, says, on_verdict, if_undecided, if_feeding}
use Rattle.radio_laws.proofs.Words.{if_sitting, unless_relayed, admits_client, shown_for, begins, takes_in, first_seat, takes_seat, sits_where, head_of, hands_out, hands_out_at, draws_so, seat_of, Session, session_of}
use Rattle.radio_laws.proofs.Words.{IsSound, outcome, reply_to, world_after, Client, client_of, WholeStream, end_of, data_at, is_over, on_air_there, taken_in_there, is_new_client, turns_ended, turns_ended_and_left}
use Rattle.radio_laws.proofs.Words.{has_advanced, asks, turns_sitting, turns_admitted, may_begin, lands_at, may_be_raised, no_path, raises, goes_down_from, Shown, asks_by, heard_named, heard_at}
use Rattle.radio_policy.specs.declared.judgement.Verdict.TheVariants.{Deny as Denied}
use Rattle.radio_parts_station.specs.declared.clients.ClientState.TheVariants.{Undecided as IsNew}
use Rattle.radio_events.specs.declared.reply.Reply.TheVariants.{Finished}
use Rattle.radio_laws.proofs.Seats.WalkLemmas.{lands_on_his_way}
use Rattle.radio_laws.specs.Service.{IsSeatedByWalk, DrawsData, Serves, ChangesNothing}
use Rattle.radio_core.proofs.Clients.CalledHome.{turns_up, turns_risen}
use Rattle.radio_core.proofs.Seats.SeatedLemmas.{seat_of_sitting}
use Rattle.radio_laws.proofs.Denials.GrantedLemmas.{Granted, AdmitsClient, AdmitsSource, AdmitsRelay, AdmitsListener, HandsData, TellsText, GrantsNothing, is_idle, granted}

is_allowed : (v : Verdict) (denied : Change) (allowed : Outcome) → v ≡ Allow → on_verdict v denied allowed ≡ allowed
is_allowed Allow denied allowed e = refl
is_allowed (Denied rule) denied allowed e = cc

pub goes_undecided : (s : Standing) (peer : Peer) (go : Peer → Outcome) → s ≡ Undecided peer → if_undecided s go ≡ go peer
goes_undecided s peer go e = rw e refl

pub goes_feeding : (s : Standing) (mount : List ℕ) (go : List ℕ → Outcome) → s ≡ Feeds mount → if_feeding s go ≡ go mount
goes_feeding s mount go e = rw e refl

goes_sitting : (s : Standing) (go : Outcome) → s ≡ Sits → if_sitting s go ≡ go
goes_sitting s go e = rw e refl

-- a draw hands out all that is there, or as much as there is room for
all_there : (stream : WholeStream) (place room : ℕ) → length (data_at stream place room) ≡ min room (end_of stream - place)
all_there stream place room = length-take room (drop place stream.bytes) ∙ ap (min room) (length-drop place stream.bytes)

-- a mount that is live has a session
found_there : (found : Option Session) → is_some found ≡ true → (session : Session) × (found ≡ Some session)
found_there None e = cc
found_there (Some session) e = (session, refl)

module _ (allows : (rows : List Row) → (verdict_in rows ≡ Allow) ↔ Allows rows) (w : World) (s : IsSound w) where
  outcome_arrive : (peer : Peer) → Allows (rows_to_arrive w.station peer) → outcome w (Arrive peer) ≡ admits_client w peer
  unfolding outcome
  outcome_arrive peer a = is_allowed (verdict_in (rows_to_arrive w.station peer)) _ (admits_client w peer) ((allows (rows_to_arrive w.station peer)).1 a)

  outcome_source : (asked : SourceRequest) (peer : Peer) → standing_of w asked.id ≡ Undecided peer → Allows (rows_to_feed w.station asked)
      → outcome w (Source asked) ≡ begins w.station asked
  unfolding outcome
  outcome_source asked peer e a =
      goes_undecided (standing_of w asked.id) peer _ e
      ∙ is_allowed (verdict_in (rows_to_feed w.station asked)) _ (begins w.station asked) ((allows (rows_to_feed w.station asked)).1 a)

  outcome_push : (id : ℕ) (mount block : List ℕ) → standing_of w id ≡ Feeds mount → Allows (rows_to_push w.station mount block)
      → outcome w (Push id block) ≡ takes_in mount block
  unfolding outcome
  outcome_push id mount block e a =
      goes_feeding (standing_of w id) mount _ e
      ∙ is_allowed (verdict_in (rows_to_push w.station mount block)) _ (takes_in mount block) ((allows (rows_to_push w.station mount block)).1 a)

  outcome_title : (id : ℕ) (mount text : List ℕ) → standing_of w id ≡ Feeds mount → outcome w (Title id text) ≡ says Noted (SetTitle mount text)
  unfolding outcome
  outcome_title id mount text e = goes_feeding (standing_of w id) mount _ e

  outcome_end : (id : ℕ) (mount : List ℕ) → standing_of w id ≡ Feeds mount → has_relay w id ≡ false → outcome w (SourceEnd id) ≡ says Noted (End id mount)
  unfolding outcome
  outcome_end id mount e no_relay =
      goes_feeding (standing_of w id) mount _ e ∙ ap (λ (b : Bool). unless_relayed b (says Noted (End id mount))) no_relay

  outcome_raise : (mount : List ℕ) (shown : Shown) → Allows (rows_to_raise w.station mount shown) → outcome w (RelayUp mount shown) ≡ raises w.station mount shown
  unfolding outcome
  outcome_raise mount shown a =
      is_allowed (verdict_in (rows_to_raise w.station mount shown)) _ (raises w.station mount shown) ((allows (rows_to_raise w.station mount shown)).1 a)

  outcome_down : (id : ℕ) (mount : List ℕ) → standing_of w id ≡ Feeds mount → has_relay w id ≡ true
      → outcome w (RelayDown id) ≡ says Noted (EndAndLeave id mount)
  unfolding outcome
  outcome_down id mount e relay =
      ap (λ (b : Bool). if b then goes_down_from id (standing_of w id) else says Stray Nothing) relay ∙ ap (goes_down_from id) e

  outcome_listen : (asked : ListenRequest) (peer : Peer) (session : Session) → standing_of w asked.id ≡ Undecided peer
      → verdict_in (rows_to_listen w asked) ≡ Allow → walks_to w.station w.seats asked.mount asked.pair ≡ Lands session.mount
      → heard_at w.station session.mount ≡ Some session → outcome w (Listen asked) ≡ takes_seat w.station asked peer (Some session)
  unfolding outcome
  outcome_listen asked peer session e v lands found =
      ap (asks_by w asked) (no_path w asked v)
      ∙ goes_undecided (standing_of w asked.id) peer _ e
      ∙ is_allowed (verdict_in (rows_to_listen w asked)) _ (sits_where w.station asked peer (walks_to w.station w.seats asked.mount asked.pair)) v
      ∙ ap (sits_where w.station asked peer) lands
      ∙ ap (takes_seat w.station asked peer) found

  outcome_draw : (id room : ℕ) (seat : Seat) (session : Session) → standing_of w id ≡ Sits → seat_of w.seats id ≡ Some seat
      → heard_at w.station seat.mount ≡ Some session → outcome w (Draw id room) ≡ hands_out id seat room (Some session)
  unfolding outcome
  outcome_draw id room seat session e has live =
      draws_so w id room
      ∙ goes_sitting (standing_of w id) _ e
      ∙ ap (hands_out_at w.station id room) has
      ∙ ap (hands_out id seat room) live

  after_outcome : (event : Event) (o : Outcome) (id : ℕ) (now : Standing) → outcome w event ≡ o → standing_of (changed w o.change) id ≡ now
      → standing_of (world_after w event) id ≡ now
  unfolding world_after
  after_outcome event o id now e h = ap (λ (x : Outcome). standing_of (changed w x.change) id) e ∙ h

  -- what is found in the state after it
  found_after : {A : Type 0} (look : World → A) (event : Event) (o : Outcome) → outcome w event ≡ o → look (world_after w event) ≡ look (changed w o.change)
  unfolding world_after
  found_after look event o e = ap (λ (x : Outcome). look (changed w x.change)) e

  reply_is : (event : Event) (o : Outcome) → outcome w event ≡ o → reply_to w event ≡ o.reply
  unfolding reply_to
  reply_is event o e = ap (λ (x : Outcome). x.reply) e

  received : (asked : ListenRequest) (peer : Peer) → standing_of w asked.id ≡ Undecided peer → Allows (rows_to_listen w asked) → IsSeatedByWalk w asked
  received asked peer e a =
      let v = (allows (rows_to_listen w asked)).1 a in
      let landed = lands_at w asked v in
      let there = found_there (heard_at w.station landed.to) landed.fits.is_live in
      let named : there.0.mount ≡ landed.to = heard_named w.station landed.to there.0 there.1 in
      let way = lands_on_his_way w asked landed.to landed.lands in
      let o = outcome_listen asked peer there.0 e v (landed.lands ∙ ap (λ (m : List ℕ). Lands m) (sym named)) (ap (heard_at w.station) named ∙ there.1) in
      record {
        session = there.0;
        steps = way.0;
        not_too_far = way.1;
        on_his_way = subst (λ (m : List ℕ). ComesBy w asked.mount way.0 m) (sym named) way.2;
        is_heard = ap (heard_at w.station) named ∙ there.1;
        head = head_of w.station there.0.shown;
        shows = refl;
        is_shown = reply_is (Listen asked) (takes_seat w.station asked peer (Some there.0)) o;
        sits = after_outcome (Listen asked) (takes_seat w.station asked peer (Some there.0)) asked.id Sits o
            (turns_sitting w asked.id (first_seat w.station asked peer there.0) (asks w asked.id peer e)).his;
      }

  handed_out : (id room : ℕ) → standing_of w id ≡ Sits → DrawsData w id room
  handed_out id room e =
      let has = seat_of_sitting w id e in
      let in_session = s.seated id has.0 has.1 in
      let o = outcome_draw id room has.0 in_session.session e has.1 in_session.is_heard in
      let many = all_there in_session.session.stream has.0.place room in
      record {
        seat = has.0;
        has_the_seat = has.1;
        session = in_session.session;
        is_heard = in_session.is_heard;
        is_handed = reply_is (Draw id room) (hands_out id has.0 room (Some in_session.session)) o;
        all_there = many;
        goes_on = found_after (λ (x : World). seat_of x.seats id) (Draw id room) (hands_out id has.0 room (Some in_session.session)) o
            ∙ has_advanced w s id room has.0 in_session.session e has.1 in_session.is_heard
            ∙ ap (λ (n : ℕ). Some (record has.0 { place = has.0.place + n })) many;
      }

  pub service_holds : Serves w
  service_holds = record {
    admits = λ peer a.
        let o = outcome_arrive peer a in
        let new : Client = record { id = w.station.last_id + 1; peer = peer; arrived = w.station.time; state = IsNew } in
        let itself : (w.station.last_id + 1 == w.station.last_id + 1) ≡ true = grind (arith, nat_tests) in (
          reply_is (Arrive peer) (admits_client w peer) o,
          found_after (λ (x : World). client_of x.station.clients (w.station.last_id + 1)) (Arrive peer) (admits_client w peer) o
              ∙ is_new_client w.station.clients new (w.station.last_id + 1) itself,
          after_outcome (Arrive peer) (admits_client w peer) (w.station.last_id + 1) (Undecided peer) o
              (turns_admitted w (w.station.last_id + 1) peer).his,
        );
    begins = λ asked peer e a.
        let o = outcome_source asked peer e a in (
          reply_is (Source asked) (begins w.station asked) o,
          after_outcome (Source asked) (begins w.station asked) asked.id (Feeds asked.mount) o
              (turns_up w s asked.id asked.mount (shown_for w.station asked.mount asked.shown) peer e
              (may_begin w asked ((allows (rows_to_feed w.station asked)).1 a))).his,
        );
    raises = λ mount shown a.
        let o = outcome_raise mount shown a in
        let free = may_be_raised w mount shown ((allows (rows_to_raise w.station mount shown)).1 a) in (
          reply_is (RelayUp mount shown) (raises w.station mount shown) o,
          after_outcome (RelayUp mount shown) (raises w.station mount shown) (w.station.last_id + 1) (Feeds mount) o
              (turns_risen w s mount (shown_for w.station mount shown) free).his,
        );
    goes_down = λ id mount e relay.
        let o = outcome_down id mount e relay in (
          reply_is (RelayDown id) (says Noted (EndAndLeave id mount)) o,
          found_after (λ (x : World). session_of x.station.live mount) (RelayDown id) (says Noted (EndAndLeave id mount)) o ∙ is_over w.station.live mount,
          after_outcome (RelayDown id) (says Noted (EndAndLeave id mount)) id Unknown o (turns_ended_and_left w s id mount e).his,
        );
    takes_in = λ id mount block session e live a.
        let o = outcome_push id mount block e a in (
          reply_is (Push id block) (takes_in mount block) o,
          found_after (λ (x : World). session_of x.station.live mount) (Push id block) (takes_in mount block) o
              ∙ taken_in_there w mount block session live,
        );
    titles = λ id mount text session e live.
        let o = outcome_title id mount text e in (
          reply_is (Title id text) (says Noted (SetTitle mount text)) o,
          found_after (λ (x : World). session_of x.station.live mount) (Title id text) (says Noted (SetTitle mount text)) o
              ∙ on_air_there w mount text session live,
        );
    ends = λ id mount e no_relay.
        let o = outcome_end id mount e no_relay in (
          reply_is (SourceEnd id) (says Noted (End id mount)) o,
          found_after (λ (x : World). session_of x.station.live mount) (SourceEnd id) (says Noted (End id mount)) o ∙ is_over w.station.live mount,
          after_outcome (SourceEnd id) (says Noted (End id mount)) id Answered o (turns_ended w s id mount e no_relay).his,
        );
    seats = received;
    hands_out = handed_out;
  }

-- what changes nothing
nothing_by : (w : World) (event : Event) (o : Outcome) → Granted w event o
    → (o.reply ≡ Stray → changed w o.change ≡ w) × ((rule : Rule) → o.reply ≡ Finished rule → changed w o.change ≡ w)
nothing_by w event o (GrantsNothing _ none idle) = (λ d. ap (changed w) (idle (ap is_idle d)), λ rule d. ap (changed w) (idle (ap is_idle d)))
nothing_by w event o (AdmitsClient peer change is allowed) = (λ d. cc, λ rule d. cc)
nothing_by w event o (AdmitsSource asked change is allowed) = (λ d. cc, λ rule d. cc)
nothing_by w event o (AdmitsRelay mount shown change is allowed) = (λ d. cc, λ rule d. cc)
nothing_by w event o (AdmitsListener asked peer session is undecided lands live) = (λ d. cc, λ rule d. cc)
nothing_by w event o (HandsData id room seat session change is sits has live) = (λ d. cc, λ rule d. cc)
nothing_by w event o (TellsText text change why) = (λ d. cc, λ rule d. cc)

pub changes_nothing : (w : World) (event : Event) → ChangesNothing w event
unfolding reply_to world_after
changes_nothing w event = let nothing = nothing_by w event (outcome w event) (granted w event) in record { stray = nothing.0; finished = nothing.1 }
