-- What a client gets that asks to listen to a mount.
use Rattle.std.proofs.Common.{◌≡◌, inl, inr, ℕ, ◌==◌, Bool, true, false, List, [], ◌∷◌, ◌++◌, Option, None, Some, refl, sym, ap, subst, ◌∙◌}
use Rattle.radio_headline.proofs.Words.{if◌then◌else◌, AllByRecursion, append-nil, flat_map-append, Peer, Settings, Lists, Rule, Verdict, Allow, Row, Allows, verdict_in, Entry, Event, Listen, Draw, Command, Leave}
use Rattle.radio_headline.proofs.Words.{rows_for, Denies, ListenRequest, Reply, Arrived, Feeding, Seated, Drawn, Noted, Text, Deny, Finished, Stray, StreamHead, client_in, Call, Standing, Unknown, Undecided, Feeds, Sits}
use Rattle.radio_headline.proofs.Words.{ClientsStep, is_same_number, RepliesFit, Answer, Outcome, if_undecided, on_verdict, asks_by, shows_page, rows_to_listen, walks_to, run_after, outcome, reply_to, world_after}
use Rattle.radio_headline.proofs.Words.{AddsUp, World, opening, standing_of, AccessIsKept, BeginsAtABlock, IsSeated, sittings, DenialsAreThePolicys, Serves, asks_by_get, asking, Says, joined_draws, denial, head_text}
use Rattle.radio_headline.proofs.Words.{text_answer, AdmitNobody, DrawsFollowTheHead, draws_of, told, PlainDrawsAreTheirData, JoinedDrawsAreWoven, DrawsAreTakenOutAgain, Happening, events_in, on, applied_entry, log_on}
use Rattle.radio_headline.proofs.Words.{CommandIsAnswered, DrawsAreCut, DrawsAreStretches, SitsWithASource, IsGiven, IsTooLate, draws_to, HasItsSource, WebAnswers}
use Rattle.radio_settings_values.specs.Web.{web_path}
use Rattle.radio_settings_values.specs.declared.web.WebPath.{WebPath}
use Rattle.radio_policy.specs.declared.judgement.Verdict.TheVariants.{Deny as Denied}
use Rattle.radio_events.specs.declared.command.CommandRequest.{CommandRequest}
use Rattle.radio_events.specs.declared.text.ReplyText.{ReplyText as CommandText}
use Rattle.radio_parts_station.specs.declared.standing.Standing.TheVariants.{Answered as IsAnswered, Finished as HasFinished}
use Rattle.radio_parts.specs.Listen.{sits_where}
use Rattle.radio_headline.specs.Listeners.{Hears, IsDenied, IsShown}
use Rattle.radio_headline.proofs.Gathered.{IsOnIt}
use Rattle.radio_headline.proofs.Logs.{after_joined, log_parted, replies, replies_joined, Each, each_as, each_joined, each_second, itself}
use Rattle.radio_headline.proofs.AppliedLemmas.{IsOrderly, said_all, told_joined}
use Rattle.radio_headline.proofs.ReplyForms.{ListenReply, IsOutOfPlace, HasFinished as IsFinishedReply, WasDenied, WasShown, WasSeated, listen_reply}
use Rattle.radio_headline.proofs.RunLemmas.{HasNumber, IsIdling, IsNew, AllNowhere, IsMoment, moments_are_nobodys, are_on_first, arrives_and_idles, each_happening, one_owner, reached_opening}
use Rattle.radio_headline.proofs.Connections.{arrival, AsksForMount, ByGet, IsIdleOrLeaving}
use Rattle.radio_headline.proofs.Connections.{IsClosed}
use Rattle.radio_headline.proofs.GetLogs.{DrawsNothing, EntryFits, FitsEvent, GetsNot, IsGetting, IsHisOrDrawsNothing, IsMute, Waited, admit_nobody, by_get, calls, calls_of, draws_gathered, get_is_his, idle_not, idle_or_leaving_is_his, idle_or_leaving_not, mute_draws, no_calls, none_admitted, orderly_draws, orderly_second, waited}
use Rattle.radio_headline.proofs.Partings.{Parted, parted}

-- the events of clients come each on one connection
module _ (web : WebAnswers) (settings : Settings) (lists : Lists)
    (fits : (events : List Event) (event : Event) → RepliesFit (run_after settings lists events) event)
    (adds : (events : List Event) (event : Event) → AddsUp (run_after settings lists events) event)
    (steps : (events : List Event) (event : Event) → ClientsStep (run_after settings lists events) event)
    (brought given : ℕ → List ℕ) (course : List Happening)
    (each : (label : ℕ) → IsClosed web (brought label) (log_on (opening settings lists) course label) (given label))
    (nowhere : AllNowhere (λ h. IsMoment h.event) course) where
  -- the events of a client are on the connection on which it was given its number
  none_nowhere : (label id : ℕ) (past : List Happening) → AllNowhere (λ h. IsMoment h.event) past → AllNowhere (IsOnIt label id) past
  none_nowhere label id [] h = tt
  none_nowhere label id (x ∷ past) h =
      ((λ e his. let both : None ≡ Some id = sym (moments_are_nobodys x.event (h.0 e)) ∙ his in cc), none_nowhere label id past h.1)

  pub on_his : (label id : ℕ) → HasNumber id (log_on (opening settings lists) course label) → AllByRecursion (IsOnIt label id) course
  on_his label id has =
      each_happening settings lists fits adds steps (λ other event. (him : ℕ) → client_in event ≡ Some him → HasNumber him (log_on (opening settings lists) course other)) (IsOnIt label id)
      (λ other event own his.
      let same : other ≡ label = one_owner settings lists fits adds steps (opening settings lists) course other label id (reached_opening settings lists fits adds steps) (own id his) has in
      ap (λ (n : ℕ). n == label) same ∙ itself label)
      (opening settings lists) course
      (λ other. (each other).own)
      (none_nowhere label id course nowhere)

-- a client that has asked for nothing yet, and asks to listen to a mount, is not out of place
module _ (w : World) (asked : ListenRequest)
    (allowed : (peer : Peer) → standing_of w asked.id ≡ Undecided peer → verdict_in (rows_to_listen w asked) ≡ Allow → ⊥) where
  at_page : (path : WebPath) (s : Standing) → IsNew s → standing_of w asked.id ≡ s → (asks_by w asked (Some path)).reply ≡ Stray → ⊥
  at_page path Unknown n d h = elim n [ ]
  at_page path (Feeds mount) n d h = elim n [ ]
  at_page path Sits n d h = elim n [ ]
  at_page path IsAnswered n d h = elim n [ ]
  at_page path (Undecided peer) n e h =
      let d = sym (ap (λ (t : Standing). (if_undecided t (λ _. shows_page w asked path)).reply) e) ∙ h in cc
  at_page path (HasFinished rule) n e h =
      let d = sym (ap (λ (t : Standing). (if_undecided t (λ _. shows_page w asked path)).reply) e) ∙ h in cc

  abbrev asks_then : Verdict → Peer → Outcome
  asks_then v peer = on_verdict v (Answer asked.id) (sits_where w.station asked peer (walks_to w.station w.seats asked.mount asked.pair))

  at_mount : (s : Standing) → IsNew s → standing_of w asked.id ≡ s → (asks_by w asked None).reply ≡ Stray → ⊥
  at_mount Unknown n d h = elim n [ ]
  at_mount (Feeds mount) n d h = elim n [ ]
  at_mount Sits n d h = elim n [ ]
  at_mount IsAnswered n d h = elim n [ ]
  at_mount (Undecided peer) n e h = by_verdict (verdict_in (rows_to_listen w asked)) refl where
    d : (asks_then (verdict_in (rows_to_listen w asked)) peer).reply ≡ Stray
    d = sym (ap (λ (t : Standing). (if_undecided t (asks_then (verdict_in (rows_to_listen w asked)))).reply) e) ∙ h

    by_verdict : (v : Verdict) → verdict_in (rows_to_listen w asked) ≡ v → ⊥
    by_verdict Allow v = allowed peer e v
    by_verdict (Denied rule) v =
        let f : Deny rule ≡ Stray = sym (ap (λ (x : Verdict). (asks_then x peer).reply) v) ∙ d in cc
  at_mount (HasFinished rule) n e h =
      let d = sym (ap (λ (t : Standing). (if_undecided t (asks_then (verdict_in (rows_to_listen w asked)))).reply) e) ∙ h in cc

  by_path : (path : Option WebPath) (s : Standing) → IsNew s → standing_of w asked.id ≡ s → (asks_by w asked path).reply ≡ Stray → ⊥
  by_path None s n e h = at_mount s n e h
  by_path (Some path) s n e h = at_page path s n e h

  never_stray : (s : Standing) → IsNew s → standing_of w asked.id ≡ s → reply_to w (Listen asked) ≡ Stray → ⊥
  unfolding reply_to outcome
  never_stray s n e h = by_path (web_path w.station.settings.web asked.mount) s n e h

-- with a bare name of the law
module _ (web : WebAnswers) (settings : Settings) (lists : Lists)
    (fits : (events : List Event) (event : Event) → RepliesFit (run_after settings lists events) event)
    (adds : (events : List Event) (event : Event) → AddsUp (run_after settings lists events) event)
    (steps : (events : List Event) (event : Event) → ClientsStep (run_after settings lists events) event)
    (access : (events : List Event) (event : Event) → AccessIsKept (run_after settings lists events) event)
    (serves : (events : List Event) → Serves (run_after settings lists events))
    (policy : (rows : List Row) → verdict_in rows ≡ Allow → Allows rows) where
  fits_event : (events : List Event) (event : Event) → FitsEvent event (reply_to (run_after settings lists events) event)
  fits_event events event =
      let f = fits events event in
      record {
        feeding = λ e. let h = f.feeding e in subst AsksForMount (sym h.1) tt;
        seated = λ interval head e. let h = f.seated interval head e in subst AsksForMount (sym h.1) tt;
        drawn = λ id e. by_reply id e (reply_to (run_after settings lists events) event) refl;
      } where
        by_reply : (id : ℕ) → event ≡ Leave id → (r : Reply) → reply_to (run_after settings lists events) event ≡ r → draws_of (r ∷ []) ≡ []
        by_reply id e (Arrived him) d = refl
        by_reply id e Feeding d = refl
        by_reply id e (Seated interval head) d = refl
        by_reply id e (Drawn bytes title) d =
            let h = access events event bytes title d in let both : Leave id ≡ Draw h.id h.room = sym e ∙ h.asked in cc
        by_reply id e Noted d = refl
        by_reply id e (Text text) d = refl
        by_reply id e (Deny rule) d = refl
        by_reply id e (Finished rule) d = refl
        by_reply id e Stray d = refl

  log_fits : (events : List Event) (past : List Happening) (label : ℕ) → Each EntryFits (log_on (run_after settings lists events) past label)
  log_fits events [] label = tt
  log_fits events (h ∷ past) label =
      by_label (subst (λ (x : World). Each EntryFits (log_on x past label)) (after_joined (opening settings lists) events (h.event ∷ []))
      (log_fits (events ++ h.event ∷ []) past label)) (is_same_number label h.label) where
        by_label : Each EntryFits (log_on (world_after (run_after settings lists events) h.event) past label) → (b : Bool)
            → Each EntryFits ((if b then applied_entry (run_after settings lists events) h.event ∷ [] else []) ++ log_on (world_after (run_after settings lists events) h.event) past label)
        by_label later true = (fits_event events h.event, later)
        by_label later false = later

  listens_in_place : (events : List Event) (asked : ListenRequest) (s : Standing) → IsNew s → standing_of (run_after settings lists events) asked.id ≡ s
      → reply_to (run_after settings lists events) (Listen asked) ≡ Stray → ⊥
  listens_in_place events asked s n e stray = never_stray (run_after settings lists events) asked (λ peer u v. seated peer u v) s n e stray where
    seated : (peer : Peer) → standing_of (run_after settings lists events) asked.id ≡ Undecided peer → verdict_in (rows_to_listen (run_after settings lists events) asked) ≡ Allow → ⊥
    seated peer u v =
        let taken = (serves events).seats asked peer u (policy (rows_to_listen (run_after settings lists events) asked) v) in
        let both = sym taken.is_shown ∙ stray in
        cc

  -- what is written after the first entry of a log
  module _ (denied : (events : List Event) (event : Event) → DenialsAreThePolicys (run_after settings lists events) event)
      (begins : (events : List Event) (event : Event) → BeginsAtABlock (run_after settings lists events) event)
      (stretches : (events : List Event) (id : ℕ) → DrawsAreStretches settings lists events id)
      (cut : (events : List Event) (id : ℕ) → DrawsAreCut settings lists events id)
      (follow : DrawsFollowTheHead) (plainly : PlainDrawsAreTheirData) (weave : JoinedDrawsAreWoven) (take : DrawsAreTakenOutAgain)
      (brought given : ℕ → List ℕ) (course : List Happening)
      (each : (label : ℕ) → IsClosed web (brought label) (log_on (opening settings lists) course label) (given label))
      (nowhere : AllNowhere (λ h. IsMoment h.event) course)
      (shown_by_source : (past : List Happening) (interval : Option ℕ) (head : StreamHead) (asked : ListenRequest) (rest : List Happening) → course ≡ past ++ rest
      → (s : IsSeated (run_after settings lists (events_in past)) (Listen asked) interval head)
      → HasItsSource settings lists brought course s.session.mount s.session.number head.shown)
      (sit : (id : ℕ) → AllByRecursion (SitsWithASource settings lists brought course) (sittings (opening settings lists) (events_in course) id)) where
    abbrev w0 : World
    w0 = opening settings lists

    abbrev log : ℕ → List Entry
    log label = log_on w0 course label

    module _ (label : ℕ) (ask : Event) (gets : IsGetting ask) (past later : List Happening) (parts : course ≡ past ++ on label ask ∷ later) where
      abbrev w : World
      w = run_after settings lists (events_in past)

      abbrev reply : Reply
      reply = reply_to w ask

      abbrev before : List Entry
      before = log_on w0 past label

      abbrev behind : List Entry
      behind = log_on (world_after w ask) later label

      in_order : log label ≡ before ++ (applied_entry w ask) ∷ behind
      in_order = ap (λ (hs : List Happening). log_on w0 hs label) parts ∙ log_parted w0 past later label ask

      g : ByGet web (brought label) (log label) (given label)
      g = by_get web (brought label) (log label) (given label) before behind (applied_entry w ask) in_order gets (each label).facts

      p : Parted before (arrival g.peer g.id ∷ g.idle) (applied_entry w ask) (record { event = asks_by_get web g.id g.request; reply = g.reply }) behind g.behind
      p = parted IsGetting before (arrival g.peer g.id ∷ g.idle) behind g.behind (applied_entry w ask) _ (sym in_order ∙ g.in_order) gets
          ((λ l. l), each_as (IsIdling g.id) GetsNot (idle_not g.id) g.idle g.idles)
          (each_as (IsIdleOrLeaving g.id) GetsNot (idle_or_leaving_not g.id) g.behind g.no_more)

      has_number : HasNumber g.id (log label)
      has_number = subst (HasNumber g.id) (sym g.in_order) (inl refl)

      on_it : AllByRecursion (IsOnIt label g.id) course
      on_it = on_his web settings lists fits adds steps brought given course each nowhere label g.id has_number

      on_it_before : AllByRecursion (IsOnIt label g.id) past
      on_it_before = are_on_first settings lists fits adds steps label g.id past (on label ask ∷ later)
          (subst (AllByRecursion (IsOnIt label g.id)) parts on_it)

      waits : IsNew (standing_of w g.id) × Each IsMute g.idle
      waits = arrives_and_idles settings lists fits adds steps w0 past label g.id g.peer g.idle (reached_opening settings lists fits adds steps) on_it_before
          p.before g.idles

      his_ask : client_in ask ≡ Some g.id
      his_ask = ap (λ (x : Entry). client_in x.event) p.here ∙ get_is_his web g.id g.request

      mute : Waited web g.idle
      mute = waited web g.idle g.goes.1 waits.1

      -- the draws follow its head
      told_behind : given label ≡ told (asking web) (reply ∷ replies behind)
      told_behind =
          g.is_told
          ∙ ap (λ (xs : List Entry). told (asking web) (replies xs)) (g.in_order)
          ∙ ap (told (asking web)) (ap (λ (rs : List Reply). Arrived g.id ∷ rs) (replies_joined g.idle (record { event = asks_by_get web g.id g.request; reply = g.reply } ∷ g.behind)))
          ∙ told_joined (asking web) (Arrived g.id ∷ replies g.idle) (g.reply ∷ replies g.behind) g.goes
          ∙ ap (λ (xs : List ℕ). xs ++ told (said_all (asking web) (replies g.idle)) (g.reply ∷ replies g.behind)) mute.untold
          ∙ ap (λ (s : Says). told s (g.reply ∷ replies g.behind)) mute.says
          ∙ ap (λ (e : Entry). told (asking web) (e.reply ∷ replies g.behind)) (sym p.here)
          ∙ ap (λ (xs : List Entry). told (asking web) (reply ∷ replies xs)) (sym p.behind)

      fits_behind : Each EntryFits behind
      fits_behind = (each_second EntryFits before ((applied_entry w ask) ∷ behind) (subst (Each EntryFits) in_order (log_fits [] course label))).1

      orderly_behind : IsOrderly g.id behind
      orderly_behind = (orderly_second g.id before ((applied_entry w ask) ∷ behind) (subst (IsOrderly g.id) in_order g.orderly)).1

      idle_behind : Each (IsIdleOrLeaving g.id) behind
      idle_behind = subst (Each (IsIdleOrLeaving g.id)) (sym p.behind) g.no_more

      nobody : AdmitNobody (replies behind)
      nobody = admit_nobody behind (none_admitted g.id behind idle_behind fits_behind)

      all_draws : (interval : Option ℕ) (head : StreamHead) → reply ≡ Seated interval head
          → draws_of (replies behind) ≡ draws_to w0 (events_in course) g.id
      all_draws interval head seated =
          orderly_draws g.id behind orderly_behind fits_behind
          ∙ ap (λ (xs : List Call). xs ++ calls behind) (sym none_before)
          ∙ sym (flat_map-append calls_of before ((applied_entry w ask) ∷ behind) ∙ ap (λ (xs : List Call). calls before ++ (xs ++ calls behind)) none_here)
          ∙ ap calls (sym in_order)
          ∙ sym (draws_gathered w0 course label g.id on_it his_or_not) where
            none_here : calls_of (applied_entry w ask) ≡ []
            none_here = ap (λ (r : Reply). draws_of (r ∷ [])) seated

            none_before : calls before ≡ []
            none_before = ap calls p.before ∙ no_calls g.idle (each_as IsMute DrawsNothing mute_draws g.idle waits.1)

            his_or_not : Each (IsHisOrDrawsNothing g.id) (log label)
            his_or_not = subst (Each (IsHisOrDrawsNothing g.id)) (sym in_order)
                (each_joined (IsHisOrDrawsNothing g.id) before ((applied_entry w ask) ∷ behind)
                (subst (Each (IsHisOrDrawsNothing g.id)) (sym p.before)
                (inr refl, each_as IsMute (IsHisOrDrawsNothing g.id) (λ e m. inr (mute_draws e m)) g.idle waits.1))
                (inr none_here, each_as (IsIdleOrLeaving g.id) (IsHisOrDrawsNothing g.id) (λ e h. inl (idle_or_leaving_is_his g.id e h)) behind idle_behind))

      told_as : (r : Reply) → reply ≡ r → given label ≡ told (asking web) (r ∷ replies behind)
      told_as r e = told_behind ∙ ap (λ (x : Reply). told (asking web) (x ∷ replies behind)) e

      reads_denial : (rule : Rule) → reply ≡ Deny rule → Denies (rows_for w ask) rule × (given label ≡ denial web rule)
      reads_denial rule e = ((denied (events_in past) ask rule e).0, told_as (Deny rule) e ∙ append-nil (denial web rule))

      reads_text : (text : CommandText) → reply ≡ Text text → given label ≡ text_answer web text
      reads_text text e = told_as (Text text) e ∙ append-nil (text_answer web text)

    -- a client gives a command
    pub answered_by : (label : ℕ) (asked : CommandRequest) (past later : List Happening) → course ≡ past ++ on label (Command asked) ∷ later
        → CommandIsAnswered settings lists brought course web given label asked past
    answered_by label asked past later parts = record {
      denied = reads_denial label (Command asked) tt past later parts;
      told = reads_text label (Command asked) tt past later parts;
    }

    -- a client asks to listen to a mount
    module _ (label : ℕ) (asked : ListenRequest) (past later : List Happening) (parts : course ≡ past ++ on label (Listen asked) ∷ later) where
      abbrev at : World
      at = run_after settings lists (events_in past)

      abbrev answer : Reply
      answer = reply_to at (Listen asked)

      abbrev his : ByGet web (brought label) (log label) (given label)
      his = g label (Listen asked) tt past later parts

      his_number : asked.id ≡ his.id
      his_number = let both : Some asked.id ≡ Some his.id = his_ask label (Listen asked) tt past later parts in cc

      is_new : IsNew (standing_of at asked.id)
      is_new = subst (λ (n : ℕ). IsNew (standing_of at n)) (sym his_number) (waits label (Listen asked) tt past later parts).0

      abbrev later_log : List Entry
      later_log = log_on (world_after at (Listen asked)) later label

      pub given_by : IsGiven settings lists brought course web at asked (given label) answer
      given_by = by_reply answer refl (listen_reply at asked) where
        by_reply : (r : Reply) → answer ≡ r → ListenReply r → IsGiven settings lists brought course web at asked (given label) r
        by_reply (Arrived him) e x = elim x [ ]
        by_reply Feeding e x = elim x [ ]
        by_reply (Drawn sound title) e x = elim x [ ]
        by_reply Noted e x = elim x [ ]
        by_reply Stray e IsOutOfPlace = absurd (listens_in_place (events_in past) asked (standing_of at asked.id) is_new refl e)
        by_reply (Finished rule) e (IsFinishedReply _) = IsTooLate rule (told_as label (Listen asked) tt past later parts (Finished rule) e)
        by_reply (Deny rule) e (WasDenied _) =
            let d = reads_denial label (Listen asked) tt past later parts rule e in IsDenied rule d.0 d.1
        by_reply (Text text) e (WasShown _) = IsShown text (reads_text label (Listen asked) tt past later parts text e)
        by_reply (Seated interval head) e (WasSeated _ _) = Hears interval head (record {
          is_seated = begins (events_in past) (Listen asked) interval head e;
          shows_his_source = shown_by_source past interval head asked (on label (Listen asked) ∷ later) parts (begins (events_in past) (Listen asked) interval head e);
          sits_with_sources = sit asked.id;
          behind = joined_draws interval (draws_to w0 (events_in course) asked.id);
          head_first = told_as label (Listen asked) tt past later parts (Seated interval head) e
              ∙ follow (asking web) interval head (replies later_log) refl (nobody label (Listen asked) tt past later parts)
              ∙ ap (λ (ds : List Call). head_text web interval head ++ joined_draws interval ds)
              (all_draws label (Listen asked) tt past later parts interval head e ∙ ap (draws_to w0 (events_in course)) (sym his_number));
          are_draws = refl;
          plain = λ none. plainly interval (draws_to w0 (events_in course) asked.id) none;
          woven = λ n some. weave interval n (draws_to w0 (events_in course) asked.id) some;
          taken_out_again = λ n some. (take interval n (draws_to w0 (events_in course) asked.id) some).0;
          are_slices = stretches (events_in course) asked.id;
          are_cut = cut (events_in course) asked.id;
        })
