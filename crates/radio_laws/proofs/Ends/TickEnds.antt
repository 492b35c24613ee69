-- which listeners wait after the clock ends a session, and the law of time
use Rattle.std.proofs.Common.{◌≡◌, ◌⊎◌, inl, inr, true, false, Bool, ℕ, Some, None, List, [], ◌∷◌, refl, ap, sym, subst, ◌∙◌}
use Rattle.radio_laws.proofs.Words.{if◌then◌else◌, fold, HeaderTimeout, TimeOver, Settings, by_name, Seat, seat_of, Clock, Session, session_of, end_of, has_sat_out, is_silent, is_over, is_on_demand, World, Nothing, Tick}
use Rattle.radio_laws.proofs.Words.{changed, session_over, session_ended, before_silence, session_silenced, silent_in, ticked, Brings, BySilence, IsSound, outcome, world_after, heard_cases, timed, fates_sat_out}
use Rattle.radio_laws.proofs.Words.{fates_silence, IsOnTheWay, goes_on, IsInTime, IsEndedInOrder, NobodyOutstays, SittersAreLetIn}
use Rattle.radio_fallback.specs.declared.moves.Move.TheVariants.{Ended as SessionEnds}
use Rattle.radio_core.proofs.Sessions.TickLemmas.{at_first}
use Rattle.radio_laws.proofs.Ends.InTime.{in_time}
use Rattle.radio_laws.proofs.Seats.LimitLemmas.{Within}
use Rattle.radio_laws.proofs.Ends.TickOrder.{finished_on, too_late, time_over, silent_source, still_there, sits_at_first, sits_no_more, left_there}
use Rattle.radio_laws.proofs.Seats.WalkLemmas.{falls_nowhere}
use Rattle.radio_laws.proofs.Seats.WalkingOnLemmas.{walk_on}

module _ (w : World) (s : IsSound w) (l : Within w) (let_in : SittersAreLetIn w) (ms : ℕ) where
  -- a relay feeds its mount on demand
  module _ (id : ℕ) (seat : Seat) (on_demand : is_on_demand w.station.settings seat.mount ≡ true) where
    -- its seat when it waits
    abbrev waiting : Seat
    waiting = record seat { session = 0; place = 0 }

    abbrev IsStillOrWaits : World → Type 0
    IsStillOrWaits now = (seat_of now.seats id ≡ Some seat) ⊎ (seat_of now.seats id ≡ Some waiting)

    module _ (session : Session) (sessions : List Session) (during : World) (way : IsOnTheWay w s ms (session ∷ sessions) during) where
      brings : Brings w (Clock ms) (SessionEnds session.mount) (session_over during session.mount)
      brings =
          subst (λ (v : World). Brings w (Clock ms) (SessionEnds session.mount) (session_over v session.mount)) (sym way.have_ended)
          (BySilence ms way.before sessions session way.are_all)

      -- at the end of its session it goes on there, and waits
      waits_there : (now : Seat) → now.mount ≡ session.mount → seat.mount ≡ session.mount → seat_of during.seats id ≡ Some now
          → seat_of (session_ended during session.mount).seats id ≡ Some (record now { session = 0; place = 0 })
      waits_there now at there has =
          let over = session_over during session.mount in
          let fares = walk_on w s l let_in (Clock ms) (SessionEnds session.mount) over brings id now has in
          let waits : is_on_demand over.station.settings session.mount ≡ true =
          ap (λ (settings : Settings). is_on_demand settings session.mount) way.so_far.settings ∙ ap (is_on_demand w.station.settings) (sym there) ∙ on_demand in
          let goes = fares.goes session.mount (fares.waits session.mount refl at waits) in
          heard_cases over.station session.mount goes.0 goes.1
          (λ live. let none : session_of over.station.live session.mount ≡ None = is_over during.station.live session.mount in cc)
          (λ none silent.
          goes.2
          ∙ ap (λ (x : Session). Some (record now { mount = session.mount; session = x.number; place = end_of x.stream })) (sym silent)
          ∙ ap (λ (m : List ℕ). Some (record now { mount = m; session = 0; place = 0 })) (sym at))

      after_silence : IsStillOrWaits during → IsStillOrWaits (session_silenced during session)
      after_silence (inl has) =
          by_name seat.mount session.mount (λ there. inr (waits_there seat there there has))
          (λ away. inl (still_there w s ms id seat during session.mount way.sound.by_number has away))
      after_silence (inr has) =
          inr (by_name seat.mount session.mount (λ there. waits_there waiting there there has)
          (λ away. still_there w s ms id waiting during session.mount way.sound.by_number has away))

    keeps : (sessions : List Session) (during : World) → IsOnTheWay w s ms sessions during → IsStillOrWaits during
        → IsStillOrWaits (fold session_silenced during sessions)
    keeps [] during way holds = holds
    keeps (session ∷ sessions) during way holds =
        keeps sessions (session_silenced during session) (goes_on w s ms session sessions during way) (after_silence session sessions during way holds)

    waits_on : (session : Session) → seat_of w.seats id ≡ Some seat → has_sat_out w.station.settings ms seat ≡ false
        → session_of w.station.live seat.mount ≡ Some session → is_silent w.station.settings.limits.source_timeout ms session ≡ true
        → seat_of (ticked w ms).seats id ≡ Some waiting
    waits_on session has not_out live silent =
        by_end (keeps (silent_in (before_silence w ms)) (before_silence w ms) (at_first w s ms) (inl (sits_at_first w s ms id seat has not_out))) where
          by_end : IsStillOrWaits (ticked w ms) → seat_of (ticked w ms).seats id ≡ Some waiting
          by_end (inr waits) = waits
          by_end (inl still) = sits_no_more w s ms id seat session has live silent still

  ended_in_order : IsEndedInOrder w (ticked w ms) ms
  ended_in_order = record {
    clients = λ id client found late.
        finished_on w s ms (before_silence w ms) (ticked w ms) (fates_silence w s ms) id HeaderTimeout
        (finished_on w s ms (timed w s ms) (before_silence w ms) (fates_sat_out w s ms) id HeaderTimeout (too_late w s ms id client found late));
    seats = λ id seat has out.
        finished_on w s ms (before_silence w ms) (ticked w ms) (fates_silence w s ms) id TimeOver (time_over w s ms id seat has out);
    sources = silent_source w s ms;
    listeners = λ id seat session has not_out live silent nowhere never.
        left_there w s ms id seat (falls_nowhere w seat.mount nowhere) never session has not_out live silent;
    waiting = λ id seat session has not_out live silent on_demand. waits_on id seat on_demand session has not_out live silent;
  }

  pub nobody_outstays : NobodyOutstays w ms
  unfolding world_after outcome
  nobody_outstays = record {
    earlier = λ e. ap (λ (b : Bool). changed w (if b then Nothing else Tick ms)) e;
    later = λ e. subst (λ (b : Bool). IsInTime (changed w (if b then Nothing else Tick ms)) ms) (sym e) (in_time w s ms);
    in_order = λ e. subst (λ (b : Bool). IsEndedInOrder w (changed w (if b then Nothing else Tick ms)) ms) (sym e) ended_in_order;
  }
