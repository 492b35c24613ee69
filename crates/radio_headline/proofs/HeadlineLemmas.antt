-- Listeners get data of the course's sources, or nothing while they wait for one.
use Rattle.std.proofs.Common.{◌≡◌, inl, inr, ℕ, Bool, true, false, List, [], ◌∷◌, ◌++◌, Option, None, Some, refl, sym, ap, subst, ◌∙◌, append_assoc}
use Rattle.radio_headline.proofs.Words.{if◌then◌else◌, AllByRecursion, option_or, Shown, Settings, Lists, Event, Source, Listen, RelayUp, ListenRequest, StreamHead, Session, run_after, world_after_all, HasBegun}
use Rattle.radio_headline.proofs.Words.{SessionsStep, KeepsSettings, is_on_demand, shown_by_nobody, silence_at, silence_of, heard_at, World, opening, IsSeated, SeatsKeepTheirMounts, sittings, Happening, events_in, on}
use Rattle.radio_headline.proofs.Words.{SitsWithASource, HasItsSource, IsAwaited, NobodyDelivers, RelaysDeliverTheirSound, SourcesDeliverTheirBodies}
use Rattle.radio_parts_station.specs.StationState.{StationState}
use Rattle.radio_parts_station.specs.Streams.{shown_for}
use Rattle.radio_parts.proofs.HeardLemmas.{heard_cases}
use Rattle.radio_headline.proofs.Logs.{after_joined}
use Rattle.radio_headline.proofs.RunLemmas.{AllNowhere, IsMoment}
use Rattle.radio_headline.proofs.SittingLemmas.{AreFed, IsFed, BySource, ByRelay, fed_all, none_fed, sits_with}

module _ (settings : Settings) (lists : Lists)
    (sessions : (events : List Event) (event : Event) → SessionsStep (run_after settings lists events) event)
    (mounts : (events : List Event) (event : Event) → SeatsKeepTheirMounts (run_after settings lists events) event)
    (keeps : (events : List Event) (event : Event) → KeepsSettings (run_after settings lists events) event)
    (nobody : (events : List Event) → NobodyDelivers settings lists events)
    (brought : ℕ → List ℕ) (course : List Happening)
    (delivers : SourcesDeliverTheirBodies settings lists brought course)
    (relays : RelaysDeliverTheirSound settings lists brought course)
    (nowhere : AllNowhere (λ h. IsMoment h.event) course) where
  abbrev ItsSource : List ℕ → Session → Type 0
  ItsSource mount session = HasItsSource settings lists brought course mount session.number session.shown

  of_fed : (past later : List Happening) (mount : List ℕ) (session : Session) → course ≡ past ++ later
      → IsFed settings lists sessions mounts past mount session → ItsSource mount session
  of_fed past later mount session parts (BySource label asked before after begun e m n b s) =
      let there : course ≡ before ++ on label (Source asked) ∷ (after ++ later) =
      parts ∙ ap (λ (xs : List Happening). xs ++ later) e ∙ append_assoc before (on label (Source asked) ∷ after) later in
      inl (record {
        label = label;
        asked = asked;
        its_mount = m;
        its_number = n;
        before = before;
        after = after ++ later;
        has_asked = there;
        begun = begun;
        has_begun = subst (λ (k : ℕ). HasBegun (run_after settings lists (events_in before)) mount k asked.shown begun) n b;
        still_shown = s;
        delivers = delivers label asked before (after ++ later) there;
      })
  of_fed past later mount session parts (ByRelay label shown before after begun e r b s) =
      let there : course ≡ before ++ on label (RelayUp mount shown) ∷ (after ++ later) =
      parts ∙ ap (λ (xs : List Happening). xs ++ later) e ∙ append_assoc before (on label (RelayUp mount shown) ∷ after) later in
      inr (inl (record {
        label = label;
        shown = shown;
        before = before;
        after = after ++ later;
        has_come_up = there;
        begun = begun;
        has_begun = b;
        still_shown = s;
        delivers = relays label mount shown session.number before (after ++ later) there r;
      }))

  -- the settings are those of the opening
  settings_along : (past more : List Event) → (run_after settings lists past).station.settings ≡ settings
      → (world_after_all (run_after settings lists past) more).station.settings ≡ settings
  settings_along past [] e = e
  settings_along past (event ∷ more) e =
      let then_one = after_joined (opening settings lists) past (event ∷ []) in
      subst (λ (x : World). (world_after_all x more).station.settings ≡ settings) then_one
      (settings_along (past ++ event ∷ []) more (ap (λ (x : World). x.station.settings) then_one ∙ keeps past event ∙ e))

  -- a session that no source feeds is awaited
  is_awaited : (station : StationState) → station.settings ≡ settings → (mount : List ℕ) (session : Session) → silence_of station mount ≡ Some session
      → IsAwaited settings lists brought course mount session.number session.shown
  is_awaited station same mount session = by_flag (is_on_demand station.settings mount) refl where
    by_flag : (b : Bool) → is_on_demand station.settings mount ≡ b → (if b then Some (silence_at station mount) else None) ≡ Some session
        → IsAwaited settings lists brought course mount session.number session.shown
    by_flag false e silent = cc
    by_flag true e silent =
        let it : silence_at station mount ≡ session = cc in
        record {
          on_demand = ap (λ (s : Settings). is_on_demand s mount) (sym same) ∙ e;
          shows = ap (λ (x : Session). x.shown) (sym it) ∙ ap (λ (s : Settings). shown_for (record station { settings = s }) mount shown_by_nobody) same;
          of_nobody = ap (λ (x : Session). x.number) (sym it);
          delivers_nothing = nobody (events_in course);
        }

  of_heard : (past later : List Happening) (mount : List ℕ) (session : Session) → course ≡ past ++ later → AreFed settings lists sessions mounts past
      → heard_at (run_after settings lists (events_in past)).station mount ≡ Some session → ItsSource mount session
  of_heard past later mount session parts fed hears =
      let station = (run_after settings lists (events_in past)).station in
      heard_cases station mount session hears (λ live. of_fed past later mount session parts (fed mount session live))
      (λ none silent. inr (inr (is_awaited station (settings_along [] (events_in past) refl) mount session
      (ap (λ (found : Option Session). option_or found (silence_of station mount)) (sym none) ∙ hears))))

  nowhere_first : (past later : List Happening) → AllNowhere (λ h. IsMoment h.event) (past ++ later) → AllNowhere (λ h. IsMoment h.event) past
  nowhere_first [] later h = tt
  nowhere_first (x ∷ past) later h = (h.0, nowhere_first past later h.1)

  pub shown_by_source : (past : List Happening) (interval : Option ℕ) (head : StreamHead) (asked : ListenRequest) (rest : List Happening)
      → course ≡ past ++ rest → (s : IsSeated (run_after settings lists (events_in past)) (Listen asked) interval head)
      → HasItsSource settings lists brought course s.session.mount s.session.number head.shown
  shown_by_source past interval head asked rest parts s =
      subst (λ (shown : Shown). HasItsSource settings lists brought course s.session.mount s.session.number shown) (sym s.shows)
      (of_heard past rest s.session.mount s.session parts
      (fed_all settings lists sessions mounts [] past
      (nowhere_first past rest (subst (AllNowhere (λ h. IsMoment h.event)) parts nowhere)) (none_fed settings lists sessions mounts)) s.is_heard)

  pub sit_with_sources : (id : ℕ) → AllByRecursion (SitsWithASource settings lists brought course) (sittings (opening settings lists) (events_in course) id)
  sit_with_sources id =
      sits_with settings lists sessions mounts course (SitsWithASource settings lists brought course)
      (λ past later mount session start parts fed hears. (session.shown, of_heard past later mount session parts fed hears)) [] course refl nowhere
      (none_fed settings lists sessions mounts) id
