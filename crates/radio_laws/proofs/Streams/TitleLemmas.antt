-- the law of titles
use Rattle.std.proofs.Common.{◌≡◌, ◌⊎◌, inl, inr, Bool, true, false, ℕ, ◌<◌, ◌==◌, Option, Some, None, List, [], ◌∷◌, ◌++◌}
use Rattle.std.proofs.Common.{refl, ap, sym, subst, ◌∙◌, arith, append_assoc}
use Rattle.radio_laws.proofs.Words.{if◌then◌else◌, last_or, option_map, bytes_eq, nat_tests, append-nil, bytes_eq-Decides, Peer, Settings, Lists, passes, by_number, Asked, MoveClients, KillClient, KillSource}
use Rattle.radio_laws.proofs.Words.{SetFallback, AddUser, DeleteUser, Event, Push, Title, Receive, SetTitle, Outcome, Unknown, Undecided, Feeds, World, opening, standing_of, answered, changed, session_killed}
use Rattle.radio_laws.proofs.Words.{IsCommanded, is_same_number, of_client, world_after_all, run_after, Session, session_of, IsSound, outcome, reply_to, world_after, commanded_at, commanded_in, set_at, titles_set}
use Rattle.radio_laws.proofs.Words.{last_title, TitlesAreTold, undecided_before, title_live, not_of, nothing_of, was_live, is_taken_in, sound_after, sound_opening, sound_run, grown_cases, titled_cases, heard_cases}
use Rattle.radio_laws.proofs.Words.{heard_at}
use Rattle.radio_events.specs.declared.command.Asked.TheVariants.{Command as Asks}
use Rattle.radio_events.specs.declared.command.Command.{Command as TheCommand}
use Rattle.radio_events.specs.declared.command.Command.TheVariants.{SetTitle as CommandsTitle}
use Rattle.radio_laws.proofs.Streams.BroughtLemmas.{sets, IsOldOrEmpty, IsOld, IsEmpty, Brought, BringsBlock, BringsTitle, ByCommand, BringsNothing, brought}
use Rattle.radio_parts.specs.Command.{obeys as obeys_it}
use Rattle.radio_laws.proofs.Seats.AccessLemmas.{access_holds}
use Rattle.radio_laws.proofs.Ends.GoneLemmas.{his_own, with_nothing, last_rises}
use Rattle.radio_laws.proofs.Seats.ListsLemmas.{lists_run}
use Rattle.radio_laws.proofs.Seats.LimitLemmas.{within_run}

-- the last of a list with one more
last_is : {A : Type 0} (o : Option A) (xs : List A) (x : A) → last_or o (xs ++ x ∷ []) ≡ Some x
last_is o [] x = refl
last_is o (y ∷ xs) x = last_is (Some y) xs x

-- the last titles that were set so far are those that the sessions have
record Told (w : World) (told : ℕ → List (List ℕ)) : Type 0 where
  pub last : (mount : List ℕ) (session : Session) → session_of w.station.live mount ≡ Some session → session.title ≡ last_or None (told session.number)
  -- nobody has the number 0
  pub by_nobody : told 0 ≡ []
  pub none_yet : (id : ℕ) (peer : Peer) → standing_of w id ≡ Undecided peer → told id ≡ []
  pub none_above : (id : ℕ) → w.station.last_id < id → told id ≡ []

-- a mount that nobody feeds shows no title
told_heard : (w : World) (told : ℕ → List (List ℕ)) → Told w told → (mount : List ℕ) (session : Session) → heard_at w.station mount ≡ Some session
    → session.title ≡ last_or None (told session.number)
told_heard w told h mount session hears =
    heard_cases w.station mount session hears (h.last mount session)
    (λ none silent. subst (λ (x : Session). x.title ≡ last_or None (told x.number)) silent (ap (λ xs. last_or None xs) (sym h.by_nobody)))

told_as : (w : World) (told now : ℕ → List (List ℕ)) → ((n : ℕ) → told n ≡ now n) → Told w told → Told w now
told_as w told now same h = record {
  last = λ mount session e. h.last mount session e ∙ ap (λ xs. last_or None xs) (same session.number);
  by_nobody = sym (same 0) ∙ h.by_nobody;
  none_yet = λ id peer e. sym (same id) ∙ h.none_yet id peer e;
  none_above = λ id high. sym (same id) ∙ h.none_above id high;
}

module _ (w : World) (s : IsSound w) (told : ℕ → List (List ℕ)) (h : Told w told) where
  -- what a command sets
  asked_so : (event : Event) (command : TheCommand) (c : IsCommanded w event command) (id : ℕ) → commanded_in w event id ≡ commanded_at w (Asks command) id
  asked_so event command c id = ap (λ (e : Event). commanded_in w e id) c.is_event ∙ ap (λ (a : Asked). commanded_at w a id) c.is_asked

  -- a command that sets no title
  sets_no_title : (event : Event) (command : TheCommand) (c : IsCommanded w event command) (id : ℕ) → commanded_at w (Asks command) id ≡ []
      → commanded_in w event id ++ of_client event id [] ≡ []
  sets_no_title event command c id none =
      ap (λ xs. xs ++ of_client event id []) (asked_so event command c id ∙ none) ∙ nothing_of event id [] refl

  -- the source that feeds a mount, by its number
  numbered : (found : Option Session) (session : Session) (id : ℕ) → found ≡ Some session
      → is_same_number id (option_map (λ (x : Session). x.number) found) ≡ (session.number == id)
  numbered found session id e = rw e refl

  title_of_command : (event : Event) (mount text : List ℕ) (c : IsCommanded w event (CommandsTitle mount text)) (session : Session) (id : ℕ)
      → session_of w.station.live mount ≡ Some session → (b : Bool) → (session.number == id) ≡ b
      → commanded_in w event id ++ of_client event id [] ≡ (if b then text ∷ [] else [])
  title_of_command event mount text c session id found b is =
      ap (λ xs. xs ++ of_client event id []) (asked_so event (CommandsTitle mount text) c id)
      ∙ ap (λ (x : Bool). (if x then text ∷ [] else []) ++ of_client event id []) (numbered (session_of w.station.live mount) session id found ∙ is)
      ∙ alone (if b then text ∷ [] else []) where
        alone : (xs : List (List ℕ)) → xs ++ of_client event id [] ≡ xs
        alone xs = ap (λ ys. xs ++ ys) (nothing_of event id [] refl) ∙ append-nil xs

  commands_nothing : (event : Event) (command : TheCommand) (c : IsCommanded w event command) (id : ℕ)
      → ((mount : List ℕ) → standing_of w id ≡ Feeds mount → ⊥) → sets w event (obeys_it w c.asked.id command) id ≡ []
  commands_nothing event (MoveClients mount destination) c id not = nothing_of event id [] refl
  commands_nothing event (KillClient mount listener) c id not = sets_no_title event (KillClient mount listener) c id refl
  commands_nothing event (KillSource mount) c id not = sets_no_title event (KillSource mount) c id refl
  commands_nothing event (SetFallback mount fallback) c id not = sets_no_title event (SetFallback mount fallback) c id refl
  commands_nothing event (AddUser mount user password) c id not = nothing_of event id [] refl
  commands_nothing event (DeleteUser mount user) c id not = nothing_of event id [] refl
  commands_nothing event (CommandsTitle mount text) c id not =
      let there = title_live w s event mount text c in
      title_of_command event mount text c there.0 id there.1 false
      (by_number there.0.number id
      (λ same. absurd (not mount (ap (standing_of w) (sym same) ∙ s.fed mount there.0 there.1)))
      (λ apart. apart))

  -- only a source and a command set a title
  sets_nothing : (event : Event) (o : Outcome) → Brought w event o → (id : ℕ) → ((mount : List ℕ) → standing_of w id ≡ Feeds mount → ⊥)
      → sets w event o id ≡ []
  sets_nothing event o (BringsTitle him mount text feeding) id not =
      by_number him id (λ same. absurd (not mount (ap (standing_of w) (sym same) ∙ feeding))) (λ other. not_of (Title him text) id (text ∷ []) other)
  sets_nothing event o (BringsBlock him mount block feeding) id not = nothing_of event id [] refl
  sets_nothing event o (ByCommand _ command c) id not = commands_nothing event command c id not
  sets_nothing event o (BringsNothing _ _ no_block no_title live) id not = no_title id

  last_now : Event → Outcome → Type 0
  last_now event o = (mount : List ℕ) (session : Session) → session_of (changed w o.change).station.live mount ≡ Some session
      → session.title ≡ last_or None (told session.number ++ sets w event o session.number)

  -- a session whose source sets nothing has the title that it had
  as_it_was : (event : Event) (mount : List ℕ) (session : Session) → session_of w.station.live mount ≡ Some session
      → session.title ≡ last_or None (told session.number ++ of_client event session.number [])
  as_it_was event mount session live =
      h.last mount session live
      ∙ ap (λ xs. last_or None xs) (with_nothing (told session.number) (of_client event session.number []) (nothing_of event session.number [] refl))

  -- a session that is empty has a source that has set none
  last_so_far : (session : Session) → IsOldOrEmpty w session → session.title ≡ last_or None (told session.number)
  last_so_far session (IsOld mount live) = h.last mount session live
  last_so_far session (IsEmpty no_data no_title (inl undecided)) =
      no_title ∙ ap (λ xs. last_or None xs) (sym (h.none_yet session.number undecided.0 undecided.1))
  last_so_far session (IsEmpty no_data no_title (inr above)) = no_title ∙ ap (λ xs. last_or None xs) (sym (h.none_above session.number above))

  grown_title : (him : ℕ) (mount block : List ℕ) → standing_of w him ≡ Feeds mount → (other : List ℕ) (now : Session)
      → session_of (changed w (Receive mount block)).station.live other ≡ Some now
      → now.title ≡ last_or None (told now.number ++ of_client (Push him block) now.number [])
  grown_title him mount block feeding other now e =
      grown_cases w s mount block other now (ap (λ (later : World). session_of later.station.live other) (sym (is_taken_in w mount block)) ∙ e)
      (λ session same found one. subst (λ (x : Session). x.title ≡ last_or None (told x.number ++ of_client (Push him block) x.number [])) one
      (as_it_was (Push him block) mount session found))
      (λ apart found. as_it_was (Push him block) other now found)
      (λ none. let ours = s.feeds him mount feeding in let found : session_of w.station.live mount ≡ Some ours.0 = ours.1 in cc)

  -- the session of the source has the title that it sets, and the others have theirs
  new_title : (him : ℕ) (mount text : List ℕ) → standing_of w him ≡ Feeds mount → (other : List ℕ) (now : Session)
      → session_of (changed w (SetTitle mount text)).station.live other ≡ Some now
      → now.title ≡ last_or None (told now.number ++ of_client (Title him text) now.number (text ∷ []))
  new_title him mount text feeding other now e =
      titled_cases w s mount text him feeding other now e
      (λ session same found number one. subst
      (λ (x : Session). x.title ≡ last_or None (told x.number ++ of_client (Title him text) x.number (text ∷ []))) one (here session number))
      (λ apart found.
      h.last other now found
      ∙ ap (λ xs. last_or None xs) (with_nothing (told now.number) (of_client (Title him text) now.number (text ∷ []))
      (by_number him now.number
      (λ same. let both : Feeds mount ≡ Feeds other = sym feeding ∙ ap (standing_of w) same ∙ s.fed other now found in let one : mount ≡ other =
      cc in let there : bytes_eq mount other ≡ true = (bytes_eq-Decides mount other).1 one in cc)
      (λ away. not_of (Title him text) now.number (text ∷ []) away)))) where
        here : (session : Session) → session.number ≡ him
            → Some text ≡ last_or None (told session.number ++ of_client (Title him text) session.number (text ∷ []))
        here session number =
            let itself : (him == session.number) ≡ true = grind (arith, nat_tests) in
            sym (last_is None (told session.number) text)
            ∙ ap (λ xs. last_or None (told session.number ++ xs)) (his_own (him == session.number) (text ∷ []) itself)

  -- after a command that sets no title each session has its own
  none_set : (event : Event) (command : TheCommand) (c : IsCommanded w event command) → ((id : ℕ) → commanded_at w (Asks command) id ≡ []) → (mount : List ℕ)
      (session : Session) → session_of w.station.live mount ≡ Some session
      → session.title ≡ last_or None (told session.number ++ (commanded_in w event session.number ++ of_client event session.number []))
  none_set event command c none mount session live =
      h.last mount session live
      ∙ ap (λ xs. last_or None xs) (with_nothing (told session.number) (commanded_in w event session.number ++ of_client event session.number [])
      (sets_no_title event command c session.number (none session.number)))

  still_live : (found : Option Session) (him : ℕ) (mount : List ℕ) (session : Session)
      → session_of (session_killed (answered w him) found).station.live mount ≡ Some session → session_of w.station.live mount ≡ Some session
  still_live None him mount session e = e
  still_live (Some killed) him mount session e = was_live w killed.mount mount session e

  -- after one that sets a title, that of the mount is this one
  command_sets : (event : Event) (mount text : List ℕ) (c : IsCommanded w event (CommandsTitle mount text)) (other : List ℕ) (now : Session)
      → session_of (changed w (SetTitle mount text)).station.live other ≡ Some now
      → now.title ≡ last_or None (told now.number ++ (commanded_in w event now.number ++ of_client event now.number []))
  command_sets event mount text c other now e =
      titled_cases w s mount text there.0.number (s.fed mount there.0 there.1) other now e
      (λ session same found number one. subst
      (λ (x : Session). x.title ≡ last_or None (told x.number ++ (commanded_in w event x.number ++ of_client event x.number []))) one
      (here session number))
      (λ apart found.
      h.last other now found
      ∙ ap (λ xs. last_or None xs) (with_nothing (told now.number) (commanded_in w event now.number ++ of_client event now.number [])
      (title_of_command event mount text c there.0 now.number there.1 false
      (by_number there.0.number now.number
      (λ same.
      let both : Feeds mount ≡ Feeds other = sym (s.fed mount there.0 there.1) ∙ ap (standing_of w) same ∙ s.fed other now found in
      let one : mount ≡ other = cc in
      let at : bytes_eq mount other ≡ true = (bytes_eq-Decides mount other).1 one in cc)
      (λ away. away))))) where
        there : (session : Session) × (session_of w.station.live mount ≡ Some session)
        there = title_live w s event mount text c

        here : (session : Session) → session.number ≡ there.0.number
            → Some text ≡ last_or None (told session.number ++ (commanded_in w event session.number ++ of_client event session.number []))
        here session number =
            let itself : (there.0.number == session.number) ≡ true = grind (arith, nat_tests) in
            sym (last_is None (told session.number) text)
            ∙ ap (λ xs. last_or None (told session.number ++ xs)) (sym (title_of_command event mount text c there.0 session.number there.1 true itself))

  command_title : (event : Event) (command : TheCommand) (c : IsCommanded w event command) → last_now event (obeys_it w c.asked.id command)
  unfolding last_now
  command_title event (MoveClients mount destination) c = as_it_was event
  command_title event (KillClient mount listener) c = none_set event (KillClient mount listener) c (λ id. refl)
  command_title event (KillSource mount) c = λ other session e.
      none_set event (KillSource mount) c (λ id. refl) other session (still_live (session_of w.station.live mount) c.asked.id other session e)
  command_title event (SetFallback mount fallback) c = none_set event (SetFallback mount fallback) c (λ id. refl)
  command_title event (AddUser mount user password) c = as_it_was event
  command_title event (DeleteUser mount user) c = as_it_was event
  command_title event (CommandsTitle mount text) c = command_sets event mount text c

  last_by : (event : Event) (o : Outcome) → Brought w event o → last_now event o
  unfolding last_now
  last_by event o (BringsBlock him mount block feeding) = grown_title him mount block feeding
  last_by event o (BringsTitle him mount text feeding) = new_title him mount text feeding
  last_by event o (ByCommand _ command c) = command_title event command c
  last_by event o (BringsNothing _ _ no_block no_title live) = λ mount session e.
      last_so_far session (live mount session e)
      ∙ ap (λ xs. last_or None xs) (with_nothing (told session.number) (sets w event o session.number) (no_title session.number))

  told_step : (event : Event) → Told (world_after w event) (λ n. told n ++ set_at w event n)
  unfolding world_after reply_to last_now
  told_step event = record {
    last = last_by event (outcome w event) (brought w s event);
    by_nobody = nothing 0 h.by_nobody (λ mount f. let unknown : standing_of w 0 ≡ Unknown = s.from_one in cc);
    none_yet = λ id peer e. none_yet id (undecided_before w s event id peer e);
    none_above = λ id high.
        let low = last_rises w s event in
        let above : w.station.last_id < id = omega (arith, low, high) in
        nothing id (h.none_above id above) (λ mount f. let unknown : standing_of w id ≡ Unknown = s.numbered id above in cc);
  } where
    nothing : (id : ℕ) → told id ≡ [] → ((mount : List ℕ) → standing_of w id ≡ Feeds mount → ⊥) → told id ++ set_at w event id ≡ []
    nothing id none not = ap (λ xs. xs ++ set_at w event id) none ∙ sets_nothing event (outcome w event) (brought w s event) id not

    none_yet : {peer : Peer} (id : ℕ) → (standing_of w id ≡ Undecided peer) ⊎ ((w.station.last_id < id) × (passes w.station.lists peer ≡ true))
        → told id ++ set_at w event id ≡ []
    none_yet {peer} id (inl before) = nothing id (h.none_yet id peer before) (λ mount f. cc)
    none_yet id (inr new) = nothing id (h.none_above id new.0) (λ mount f. let unknown : standing_of w id ≡ Unknown = s.numbered id new.0 in cc)

-- from any state on: after events, the sessions have the last titles that were set so far and by them
told_all : (w : World) → IsSound w → (told : ℕ → List (List ℕ)) → Told w told → (events : List Event)
    → Told (world_after_all w events) (λ n. told n ++ titles_set w events n)
told_all w s told h [] = told_as w told (λ n. told n ++ []) (λ n. sym (append-nil (told n))) h
told_all w s told h (event ∷ events) =
    let later = world_after w event in
    let now = λ (n : ℕ). told n ++ set_at w event n in
    told_as (world_after_all later events) (λ n. now n ++ titles_set later events n) (λ n. told n ++ (set_at w event n ++ titles_set later events n))
    (λ n. append_assoc (told n) (set_at w event n) (titles_set later events n))
    (told_all later (sound_after w s event) now (told_step w s told h event) events)

told_run : (settings : Settings) (lists : Lists) (events : List Event) → Told (run_after settings lists events) (titles_set (opening settings lists) events)
told_run settings lists events =
    told_all (opening settings lists) (sound_opening settings lists) (λ n. [])
    (record { last = λ mount session e. cc; by_nobody = refl; none_yet = λ n peer e. cc; none_above = λ n h. refl }) events

pub titles_hold : (settings : Settings) (lists : Lists) (events : List Event) (event : Event) → TitlesAreTold settings lists events event
titles_hold settings lists events event bytes title d =
    let w = run_after settings lists events in
    let sound = sound_run settings lists events in
    let his = access_holds w sound (lists_run settings lists events) (within_run settings lists events) event bytes title d in
    let old = sound.seated his.id his.seat his.has_the_seat in
    let both : Some old.session ≡ Some his.session = sym old.is_heard ∙ his.is_heard in
    let one : old.session ≡ his.session = cc in
    let number : his.session.number ≡ his.seat.session = ap (λ (x : Session). x.number) (sym one) ∙ old.his_session in
    record {
      id = his.id;
      room = his.room;
      asked = his.asked;
      seat = his.seat;
      has_the_seat = his.has_the_seat;
      is_last = his.is_title
          ∙ told_heard w (titles_set (opening settings lists) events) (told_run settings lists events) his.seat.mount his.session his.is_heard
          ∙ ap (λ (n : ℕ). last_title (opening settings lists) events n) number;
    }
