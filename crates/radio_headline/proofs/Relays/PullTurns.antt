-- What a relay's connection is after more entries: of bytes of the master's answer, or of a single event.
use Rattle.std.proofs.Common.{◌≡◌, ◌⊎◌, inl, inr, ℕ, List, [], ◌∷◌, ◌++◌, drop, Option, None, Result, Ok, Err}
use Rattle.std.proofs.Common.{refl, sym, ap, subst, ◌∙◌, append_assoc}
use Rattle.radio_headline.proofs.Words.{concat, append-nil, blocks_of, Entry, Event, Arrive, Source, Push, SourceEnd, Title, Listen, Draw, Command, Leave, RelayUp, RelayDown, Clock, State, Running, Shut, BadPull}
use Rattle.radio_headline.proofs.Words.{Progress, More, Whole, HeadFault, IsStableReading, HeadsLieWithin, IsReading, ResponseParts, ShowsResponse, interval_in, shown_in_response, items_of, nothing_gathered}
use Rattle.radio_headline.proofs.Words.{sound_of_parts, IsPulledAt, PulledPart, Pulled, ShownPart, after_bytes, goes_on, pulled_as, pulled_by_interval, stops, stream_parts, stream_pulled, stream_with, PullItem, Up, Head}
use Rattle.radio_headline.proofs.Words.{Behind, AfterPieces, HeardInPieces, after-cut, AreOfBytes, AreOfItems, AreOfPulled, AreOfTurn, number_after, Pulling, NumberedState, WebAnswers, pushed}
use Rattle.radio_relay.specs.declared.fault.PullFault.{PullFault}
use Rattle.radio_relay.specs.declared.fault.PullFault.TheVariants.{BadHead}
use Rattle.radio_relay.specs.declared.pull.PullStage.{PullStage}
use Rattle.radio_headline.proofs.Logs.{Each, each_joined}
use Rattle.radio_headline.proofs.Relays.RelayWords.{AreNoUps, IsCut, IsNoUp, IsNotRefused, OfRelay, OwnRelay, cut_joined, number_joined, own_joined}
use Rattle.radio_headline.proofs.Connections.{AsksNothing, AtAnswer, Facts, HasAskedNothing, InAnswer, IsPulling, IsRelay, Pulls, RelayStage, events_of, stream_after}
use Rattle.radio_headline.proofs.Relays.PullEntries.{ComesUp, HasBrought, comes_up, downs, entries_push, event_brought, items_brought, plain_event, plain_items}
use Rattle.radio_headline.proofs.Relays.PullEntries.{front_none, sound_of_items}
use Rattle.radio_headline.proofs.Relays.PullParts.{behind_head, head_items, items_sound, items_up, more_sound, no_items, pulls_with, read_more, stream_shows}

-- A relay that is not up applies nothing but its coming up.
not_up : (event : Event) → OfRelay None event → IsNoUp event → ⊥
not_up (Arrive peer) own plain = elim own [ ]
not_up (Source asked) own plain = elim own [ ]
not_up (Push id block) own plain = cc
not_up (SourceEnd id) own plain = elim own [ ]
not_up (Title id text) own plain = cc
not_up (Listen asked) own plain = elim own [ ]
not_up (Draw id room) own plain = cc
not_up (Command asked) own plain = elim own [ ]
not_up (Leave id) own plain = elim own [ ]
not_up (RelayUp mount shown) own plain = elim plain [ ]
not_up (RelayDown id) own plain = cc
not_up (Clock ms) own plain = elim own [ ]

pub none_applied : (log : List Entry) → OwnRelay None log → Each (λ e. IsNoUp e.event) log → log ≡ []
none_applied [] own plain = refl
none_applied (e ∷ log) own plain = absurd (not_up e.event own.0 plain.0)

-- nothing was applied, or what was pushed is a front of the sound of the answer
abbrev pub HasPulled : List ℕ → List Entry → Type 0
HasPulled bytes log = (log ≡ []) ⊎ Pulls bytes log

pub facts_of : (web : WebAnswers) (bytes : List ℕ) (log : List Entry) (given : List ℕ) → HasPulled bytes log → Facts web bytes log given
facts_of web bytes log given (inl none) = HasAskedNothing (subst (Each AsksNothing) (sym none) tt)
facts_of web bytes log given (inr p) = IsPulling p

-- these entries are of this pull, and it goes on if it was not shut
pub record IsStill (bytes : List ℕ) (log : List Entry) (pulling : Pulling) (ends : State) : Type 0 where
  pub own : OwnRelay None log
  pub number : pulling.number ≡ number_after None log
  pub pulls : HasPulled bytes log
  pub stage : ends ≡ Running → RelayStage bytes log pulling

module _ (settled : IsStableReading ShowsResponse) (within : HeadsLieWithin ShowsResponse) (joined : (bytes : List ℕ) → concat (blocks_of bytes) ≡ bytes)
    (none_blocks : blocks_of [] ≡ []) (in_pieces : HeardInPieces) (afters : AfterPieces) where
  -- a head has been read, and more is pushed behind it
  abbrev pub grown : (bytes later : List ℕ) (log made : List Entry) (p : Pulls bytes log) → IsReading ShowsResponse later (Ok (Whole p.head p.length))
      → OwnRelay None (log ++ made) → Each (λ e. IsNoUp e.event) made → IsCut (log ++ made) → (rest : List ℕ)
      → pushed (events_of p.behind) ++ (pushed (events_of made) ++ rest) ≡ sound_of_parts (stream_parts (stream_with p.interval) (drop p.length later))
      → Pulls later (log ++ made)
  grown bytes later log made p reading own plain cut rest front =
      pulls_with settled within joined none_blocks in_pieces afters bytes later log (log ++ made) p reading (p.behind ++ made)
      (ap (λ (xs : List Entry). xs ++ made) p.in_order) own
      (each_joined (λ e. IsNoUp e.event) p.behind made p.no_more plain) cut rest
      (ap (λ (xs : List ℕ). xs ++ rest) (entries_push p.behind made)
      ∙ append_assoc (pushed (events_of p.behind)) (pushed (events_of made)) rest ∙ front)

  -- more is applied on a relay's connection that is open
  module _ (bytes : List ℕ) (log : List Entry) (pulling : Pulling) (r : IsRelay bytes log pulling) (made : List Entry) where
    all_own : OwnRelay pulling.number made → OwnRelay None (log ++ made)
    all_own own = own_joined None log made r.own (subst (λ (n : Option ℕ). OwnRelay n made) r.number own)

    still : (later : List ℕ) (now : Pulling) (ends : State) → OwnRelay pulling.number made → now.number ≡ number_after pulling.number made
        → HasPulled later (log ++ made) → (ends ≡ Running → RelayStage later (log ++ made) now) → IsStill later (log ++ made) now ends
    still later now ends own number pulls stage = record {
      own = all_own own;
      number = number ∙ ap (λ (n : Option ℕ). number_after n made) r.number ∙ sym (number_joined None log made);
      pulls = pulls;
      stage = stage;
    }

    -- a relay that is not up does nothing
    none_made : pulling.number ≡ None → OwnRelay pulling.number made → Each (λ e. IsNoUp e.event) made → made ≡ []
    none_made none own plain = none_applied made (subst (λ (n : Option ℕ). OwnRelay n made) none own) plain

    no_number : log ≡ [] → pulling.number ≡ None
    no_number e = r.number ∙ ap (number_after None) e

    nothing_yet : log ≡ [] → OwnRelay pulling.number made → Each (λ e. IsNoUp e.event) made → log ++ made ≡ []
    nothing_yet e own plain = ap (λ (xs : List Entry). xs ++ made) e ∙ none_made (no_number e) own plain

    -- nothing is pushed
    pub idles_on : (now : Pulling) (ends : State) (after : NumberedState) → HasBrought pulling.number [] made after → Each (λ e. IsNoUp e.event) made
        → now ≡ record pulling { number = after.number } → ends ≡ after.state → IsStill bytes (log ++ made) now ends
    idles_on now ends after h plain so goes = by_stage r.stage where
      number : now.number ≡ number_after pulling.number made
      number = ap (λ (x : Pulling). x.number) so ∙ h.stands

      by_stage : RelayStage bytes log pulling → IsStill bytes (log ++ made) now ends
      by_stage (AtAnswer st lg) =
          let nothing = nothing_yet lg h.own plain in
          still bytes now ends h.own number (inl nothing) (λ run. AtAnswer (ap (λ (x : Pulling). x.stage) so ∙ st) nothing)
      by_stage (InAnswer p st whole calm) =
          let silent : pushed (events_of made) ≡ [] = front_none (pushed (events_of made)) h.rest h.front in
          let q = grown bytes bytes log made p p.reading (all_own h.own) plain (cut_joined log made calm h.cut) p.rest
          (ap (λ (xs : List ℕ). pushed (events_of p.behind) ++ (xs ++ p.rest)) silent ∙ p.front) in
          still bytes now ends h.own number (inr q)
          (λ run. InAnswer q (ap (λ (x : Pulling). x.stage) so ∙ st)
          (elim whole [
            | inl e ↦ inl (number ∙ ap (number_after pulling.number) (none_made e h.own plain) ∙ e)
            | inr e ↦ inr e
          ])
          (each_joined IsNotRefused log made calm (h.quiet (sym goes ∙ run))))

    -- bytes of the answer come
    module _ (more : List ℕ) (now : Pulling) (ends : State) where
      abbrev AreOf : Pulled → Type 0
      AreOf pulled = AreOfPulled pulling (items_of pulled.parts) pulled.standing made now ends

      abbrev Then : Type 0
      Then = IsStill (bytes ++ more) (log ++ made) now ends

      -- a fault of the answer, before anything was pulled in
      stops_before : (fault : PullFault) → log ≡ [] → AreOf (stops fault) → Then
      stops_before fault lg (goes, shut, so) =
          let d = downs pulling.number made goes in
          still (bytes ++ more) now ends d.own (ap (λ (x : Pulling). x.number) so ∙ d.stays) (inl (nothing_yet lg d.own d.plain))
          (λ run. let both : Shut BadPull ≡ Running = sym shut ∙ run in cc)

      -- its head is unfinished
      still_head : log ≡ [] → AreOf (goes_on [] (Head (bytes ++ more))) → Then
      still_head lg (after, items, goes, so) =
          let h = items_brought pulling.mount (items_of []) pulling.number made after items in
          let plain = plain_items pulling.mount (items_of []) pulling.number made after items
          (subst AreNoUps (sym (no_items settled within joined none_blocks in_pieces afters)) tt) in
          let nothing = nothing_yet lg h.own plain in
          still (bytes ++ more) now ends h.own (ap (λ (x : Pulling). x.number) so ∙ h.stands) (inl nothing)
          (λ run. AtAnswer (ap (λ (x : Pulling). x.stage) so) nothing)

      -- its head has come
      module _ (head : ResponseParts) (n : ℕ) (interval : Option ℕ) (reading : IsReading ShowsResponse (bytes ++ more) (Ok (Whole head n)))
          (told : interval_in head ≡ Ok interval) (lg : log ≡ []) where
        abbrev behind_it : List PulledPart
        behind_it = stream_parts (stream_with interval) (drop n (bytes ++ more))

        abbrev parts : List PulledPart
        parts = ShownPart (shown_in_response head) ∷ behind_it

        up : (after : NumberedState) → AreOfItems pulling.mount pulling.number (items_of parts) made after → ComesUp pulling.mount (shown_in_response head) made
        up after items =
            comes_up pulling.mount (shown_in_response head) (items_of behind_it) made after
            (subst (λ (number : Option ℕ). AreOfItems pulling.mount number (Up (shown_in_response head) ∷ items_of behind_it) made after) (no_number lg)
            (subst (λ (is : List PullItem). AreOfItems pulling.mount pulling.number is made after)
            (head_items settled within joined none_blocks in_pieces afters (shown_in_response head) behind_it) items))
            (items_up nothing_gathered behind_it tt (stream_shows (stream_with interval) (drop n (bytes ++ more))))

        abbrev begun_by : (after : NumberedState) → HasBrought pulling.number (sound_of_items (items_of parts)) made after
            → ComesUp pulling.mount (shown_in_response head) made → Pulls (bytes ++ more) (log ++ made)
        begun_by after h u = record {
          mount = pulling.mount;
          head = head;
          reply = u.reply;
          behind = u.behind;
          in_order = ap (λ (xs : List Entry). xs ++ made) lg ∙ u.in_order;
          own = all_own h.own;
          no_more = u.no_more;
          cut = subst (λ (xs : List Entry). IsCut (xs ++ made)) (sym lg) h.cut;
          length = n;
          reading = reading;
          interval = interval;
          told = told;
          rest = h.rest;
          front = ap (λ (es : List Entry). pushed (events_of es) ++ h.rest) (sym u.in_order) ∙ h.front
              ∙ items_sound settled within joined none_blocks in_pieces afters parts;
        }

        head_comes : AreOf (stream_pulled (ShownPart (shown_in_response head) ∷ []) (stream_with interval) (drop n (bytes ++ more))) → Then
        head_comes (after, items, goes, so) =
            let h = items_brought pulling.mount (items_of parts) pulling.number made after items in
            let p = begun_by after h (up after items) in
            still (bytes ++ more) now ends h.own (ap (λ (x : Pulling). x.number) so ∙ h.stands) (inr p)
            (λ run. InAnswer p (ap (λ (x : Pulling). x.stage) so)
            (elim (h.whole (sym goes ∙ run)) [
              | inl none ↦ inl (ap (λ (x : Pulling). x.number) so ∙ none)
              | inr none ↦ inr none
            ])
            (subst (λ (xs : List Entry). Each IsNotRefused (xs ++ made)) (sym lg) (h.quiet (sym goes ∙ run))))

      -- more of the stream comes
      stream_comes : (p : Pulls bytes log) → (pulling.number ≡ None) ⊎ (p.rest ≡ []) → Each IsNotRefused log
          → AreOf (stream_pulled [] (stream_after p) more) → Then
      stream_comes p whole calm (after, items, goes, so) = by_case whole where
        h : HasBrought pulling.number (sound_of_items (items_of (stream_parts (stream_after p) more))) made after
        h = items_brought pulling.mount (items_of (stream_parts (stream_after p) more)) pulling.number made after items

        plain : Each (λ e. IsNoUp e.event) made
        plain = plain_items pulling.mount (items_of (stream_parts (stream_after p) more)) pulling.number made after items
            (items_up nothing_gathered (stream_parts (stream_after p) more) tt (stream_shows (stream_after p) more))

        number : now.number ≡ number_after pulling.number made
        number = ap (λ (x : Pulling). x.number) so ∙ h.stands

        front : pushed (events_of made) ++ h.rest ≡ sound_of_parts (stream_parts (stream_after p) more)
        front = h.front ∙ items_sound settled within joined none_blocks in_pieces afters (stream_parts (stream_after p) more)

        stage : now.stage ≡ Behind (after_bytes (stream_with p.interval) (drop p.length (bytes ++ more)))
        stage = ap (λ (x : Pulling). x.stage) so ∙ ap Behind (sym (
            ap (after_bytes (stream_with p.interval))
            (behind_head settled within joined none_blocks in_pieces afters bytes more p.head p.length p.reading)
            ∙ after-cut in_pieces afters (stream_with p.interval) (drop p.length bytes) more))

        with_rest : (rest : List ℕ) → pushed (events_of made) ++ rest ≡ p.rest ++ sound_of_parts (stream_parts (stream_after p) more)
            → (ends ≡ Running → (now.number ≡ None) ⊎ (rest ≡ [])) → Then
        with_rest rest e done =
            let q = grown bytes (bytes ++ more) log made p (read_more settled within joined none_blocks in_pieces afters bytes more p.head p.length p.reading)
            (all_own h.own) plain (cut_joined log made calm h.cut) rest
            (ap (λ (xs : List ℕ). pushed (events_of p.behind) ++ xs) e
            ∙ sym (append_assoc (pushed (events_of p.behind)) p.rest (sound_of_parts (stream_parts (stream_after p) more)))
            ∙ ap (λ (xs : List ℕ). xs ++ sound_of_parts (stream_parts (stream_after p) more)) p.front
            ∙ sym (more_sound settled within joined none_blocks in_pieces afters bytes more log p)) in
            still (bytes ++ more) now ends h.own number (inr q)
            (λ run. InAnswer q stage (done run) (each_joined IsNotRefused log made calm (h.quiet (sym goes ∙ run))))

        by_case : (pulling.number ≡ None) ⊎ (p.rest ≡ []) → Then
        by_case (inl none) =
            let nothing = none_made none h.own plain in
            let rest = p.rest ++ sound_of_parts (stream_parts (stream_after p) more) in
            with_rest rest (ap (λ (es : List Entry). pushed (events_of es) ++ rest) nothing)
            (λ run. inl (number ∙ ap (number_after pulling.number) nothing ∙ none))
        by_case (inr none) =
            with_rest h.rest (front ∙ ap (λ (xs : List ℕ). xs ++ sound_of_parts (stream_parts (stream_after p) more)) (sym none))
            (λ run. elim (h.whole (sym goes ∙ run)) [
              | inl n ↦ inl (ap (λ (x : Pulling). x.number) so ∙ n)
              | inr n ↦ inr n
            ])

      -- by what the head is read as
      by_interval : (head : ResponseParts) (n : ℕ) → IsReading ShowsResponse (bytes ++ more) (Ok (Whole head n)) → (told : Result (Option ℕ) PullFault)
          → interval_in head ≡ told → log ≡ [] → AreOf (pulled_by_interval head (drop n (bytes ++ more)) told) → Then
      by_interval head n reading (Err fault) told lg c = stops_before fault lg c
      by_interval head n reading (Ok interval) told lg c = head_comes head n interval reading told lg c

      by_reading : (reading : Result (Progress ResponseParts) HeadFault) → IsReading ShowsResponse (bytes ++ more) reading → log ≡ []
          → AreOf (pulled_as (bytes ++ more) reading) → Then
      by_reading (Ok More) is lg c = still_head lg c
      by_reading (Ok (Whole head n)) is lg c = by_interval head n is (interval_in head) refl lg c
      by_reading (Err fault) is lg c = stops_before BadHead lg c

      pub takes_on : AreOfBytes pulling more made now ends → Then
      takes_on (pulled, is_pulled, c) = by_stage r.stage where
        as_known : (known : Pulled) → pulled ≡ known → AreOf known
        as_known known e = subst AreOf e c

        by_stage : RelayStage bytes log pulling → Then
        by_stage (AtAnswer st lg) =
            let known = subst (λ (s : PullStage). IsPulledAt s more pulled) st is_pulled in
            by_reading known.0 known.1 lg (as_known (pulled_as (bytes ++ more) known.0) known.2)
        by_stage (InAnswer p st whole calm) =
            let known = subst (λ (s : PullStage). IsPulledAt s more pulled) st is_pulled in
            stream_comes p whole calm (as_known (stream_pulled [] (stream_after p) more) known)

    -- a turn is done
    pub turns_on : (more : List ℕ) (now : Pulling) (ends : State) → AreOfTurn pulling more made now ends → IsStill (bytes ++ more) (log ++ made) now ends
    turns_on [] now ends probed =
        subst (λ (bs : List ℕ). IsStill bs (log ++ made) now ends) (sym (append-nil bytes))
        (idles_on now ends probed.after
        (event_brought pulling.number (λ id. Draw id 0) made probed.after (λ id. refl) (λ id. refl) probed.asks)
        (plain_event pulling.number (λ id. Draw id 0) made probed.after (λ id. tt) probed.asks) probed.numbered probed.stands)
    turns_on (byte ∷ more) now ends brought = takes_on (byte ∷ more) now ends brought
