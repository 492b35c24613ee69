-- The whole course of a relay's pull.
use Rattle.std.proofs.Common.{◌≡◌, inl, inr, ℕ, true, false, List, [], ◌∷◌, ◌++◌, Option, None, refl, sym, ap, subst, ◌∙◌, append_assoc}
use Rattle.radio_headline.proofs.Words.{concat, append-nil, blocks_of, Entry, RelayUp, State, Running, Shut, entry, IsStableReading, HeadsLieWithin, ShowsResponse, shown_in_response, AfterPieces, HeardInPieces}
use Rattle.radio_headline.proofs.Words.{AreAtMostOfTurn, AreOfTurn, IsGoingDown, PullCourse, PullSoFar, begins, goes_down, has_turn, is_refused, number_after, is_shut, Pulling, WebAnswers, pushed}
use Rattle.radio_headline.proofs.Logs.{Each, each_first, each_joined}
use Rattle.radio_headline.proofs.Relays.RelayWords.{IsCut, IsGoing, IsNoUp, OwnRelay, number_joined, own_joined}
use Rattle.radio_headline.proofs.Connections.{AtAnswer, IsClosed, IsRelay, Pulls, RelayStage, events_of}
use Rattle.radio_headline.proofs.OwnLogs.{relay_owns}
use Rattle.radio_headline.proofs.Relays.PullEntries.{Downs, downs, entries_push, front_none}
use Rattle.radio_headline.proofs.Relays.PullParts.{more_pulled, pulls_with}
use Rattle.radio_headline.proofs.Relays.PullTurns.{HasPulled, facts_of, grown, turns_on}

-- What holds of entries holds of a front of them.
own_front : (number : Option ℕ) (log more : List Entry) → OwnRelay number (log ++ more) → OwnRelay number log
own_front number [] more own = tt
own_front number (e ∷ log) more own = (own.0, own_front _ log more own.1)

cut_front : (log more : List Entry) → IsCut (log ++ more) → IsCut log
cut_front [] more cut = tt
cut_front (e ∷ log) more cut = ((λ r. each_first (λ x. IsGoing x.event) log more (cut.0 r)), cut_front log more cut.1)

-- behind a log that is cut one may go
cut_going : (log more : List Entry) → IsCut log → Each (λ e. IsGoing e.event) more → IsCut more → IsCut (log ++ more)
cut_going [] more cut going later = later
cut_going (e ∷ log) more cut going later =
    ((λ r. each_joined (λ x. IsGoing x.event) log more (cut.0 r) going), cut_going log more cut.1 going later)

module _ (settled : IsStableReading ShowsResponse) (within : HeadsLieWithin ShowsResponse) (joined : (bytes : List ℕ) → concat (blocks_of bytes) ≡ bytes)
    (none_blocks : blocks_of [] ≡ []) (in_pieces : HeardInPieces) (afters : AfterPieces) where
  -- a front of what was applied pushes a front of the sound
  pulls_front : (bytes : List ℕ) (log more : List Entry) → OwnRelay None (log ++ more) → Pulls bytes (log ++ more) → HasPulled bytes log
  pulls_front bytes [] more own p = inl refl
  pulls_front bytes (e ∷ log) more own p =
      let up = entry (RelayUp p.mount (shown_in_response p.head)) p.reply in
      let both : e ∷ log ++ more ≡ up ∷ p.behind = p.in_order in
      let first : e ≡ up = cc in
      let behind : log ++ more ≡ p.behind = cc in
      inr (pulls_with settled within joined none_blocks in_pieces afters bytes bytes (e ∷ log ++ more) (e ∷ log) p p.reading log
      (ap (λ (x : Entry). x ∷ log) first)
      (own_front None (e ∷ log) more own)
      (each_first (λ x. IsNoUp x.event) log more (subst (Each (λ x. IsNoUp x.event)) (sym behind) p.no_more))
      (cut_front (e ∷ log) more p.cut)
      (pushed (events_of more) ++ p.rest)
      (sym (append_assoc (pushed (events_of log)) (pushed (events_of more)) p.rest)
      ∙ ap (λ (xs : List ℕ). xs ++ p.rest) (sym (entries_push log more) ∙ ap (λ (es : List Entry). pushed (events_of es)) behind)
      ∙ p.front))

  has_front : (bytes : List ℕ) (log more : List Entry) → OwnRelay None (log ++ more) → HasPulled bytes (log ++ more) → HasPulled bytes log
  has_front bytes log more own (inl none) = inl (front_none log more none)
  has_front bytes log more own (inr p) = pulls_front bytes log more own p

  has_more : (bytes more : List ℕ) (log : List Entry) → HasPulled bytes log → HasPulled (bytes ++ more) log
  has_more bytes more log (inl none) = inl none
  has_more bytes more log (inr p) = inr (more_pulled settled within joined none_blocks in_pieces afters bytes more log p)

  -- a relay goes down behind that
  pulls_down : (bytes : List ℕ) (log made : List Entry) → OwnRelay None (log ++ made) → Pulls bytes log → Downs (number_after None log) made
      → Pulls bytes (log ++ made)
  pulls_down bytes log made own p d =
      grown settled within joined none_blocks in_pieces afters bytes bytes log made p p.reading own d.plain (cut_going log made p.cut d.going d.cut) p.rest
      (ap (λ (xs : List ℕ). pushed (events_of p.behind) ++ (xs ++ p.rest)) d.silent ∙ p.front)

  -- what is so of a pull
  pub record Came (pull : PullSoFar) : Type 0 where
    pub own : OwnRelay None pull.entries
    pub number : pull.pulling.number ≡ number_after None pull.entries
    pub pulls : HasPulled pull.given pull.entries
    pub stage : pull.is_over ≡ false → RelayStage pull.given pull.entries pull.pulling

  relay_of : (pull : PullSoFar) → Came pull → pull.is_over ≡ false → IsRelay pull.given pull.entries pull.pulling
  relay_of pull c goes = record { own = c.own; number = c.number; stage = c.stage goes }

  running : (state : State) → is_shut state ≡ false → state ≡ Running
  running Running e = refl
  running (Shut ending) e = absurd (cc)

  turn_came : (pull : PullSoFar) → Came pull → pull.is_over ≡ false → (bytes : List ℕ) (made : List Entry) (now : Pulling) (state : State)
      → AreOfTurn pull.pulling bytes made now state
      → Came (record { given = pull.given ++ bytes; entries = pull.entries ++ made; pulling = now; is_over = is_shut state })
  turn_came pull c goes bytes made now state turn =
      let t = turns_on settled within joined none_blocks in_pieces afters pull.given pull.entries pull.pulling (relay_of pull c goes) made bytes now state turn in
      record { own = t.own; number = t.number; pulls = t.pulls; stage = λ on. t.stage (running state on) }

  -- memory was refused, and these were applied
  refused_with : (pull : PullSoFar) (bytes : List ℕ) (made : List Entry) → pull.pulling.number ≡ number_after None pull.entries
      → OwnRelay None (pull.entries ++ made) → HasPulled (pull.given ++ bytes) (pull.entries ++ made)
      → Came (record {
        given = pull.given ++ bytes;
        entries = pull.entries ++ made;
        pulling = record pull.pulling { number = number_after pull.pulling.number made };
        is_over = true;
      })
  refused_with pull bytes made number own pulls = record {
    own = own;
    number = ap (λ (n : Option ℕ). number_after n made) number ∙ sym (number_joined None pull.entries made);
    pulls = pulls;
    stage = λ goes. cc;
  }

  refused_came : (pull : PullSoFar) → Came pull → pull.is_over ≡ false → (bytes : List ℕ) (made : List Entry) → AreAtMostOfTurn pull.pulling bytes made
      → Came (record {
        given = pull.given ++ bytes;
        entries = pull.entries ++ made;
        pulling = record pull.pulling { number = number_after pull.pulling.number made };
        is_over = true;
      })
  refused_came pull c goes bytes made (inl none) =
      let same : pull.entries ≡ pull.entries ++ made = sym (append-nil pull.entries) ∙ ap (λ (xs : List Entry). pull.entries ++ xs) (sym none) in
      refused_with pull bytes made c.number (subst (OwnRelay None) same c.own)
      (subst (HasPulled (pull.given ++ bytes)) same (has_more pull.given bytes pull.entries c.pulls))
  refused_came pull c goes bytes made (inr (more, now, state, turn)) =
      let t = turns_on settled within joined none_blocks in_pieces afters pull.given pull.entries pull.pulling (relay_of pull c goes) (made ++ more) bytes now state
      turn in
      let parts : pull.entries ++ (made ++ more) ≡ (pull.entries ++ made) ++ more = sym (append_assoc pull.entries made more) in
      let own = subst (OwnRelay None) parts t.own in
      refused_with pull bytes made c.number (own_front None (pull.entries ++ made) more own)
      (has_front (pull.given ++ bytes) (pull.entries ++ made) more own (subst (HasPulled (pull.given ++ bytes)) parts t.pulls))

  down_came : (pull : PullSoFar) → Came pull → (made : List Entry) → IsGoingDown pull.pulling.number made
      → Came (record pull { entries = pull.entries ++ made; is_over = true })
  down_came pull c made goes = record {
    own = own;
    number = c.number ∙ d.stays ∙ sym (number_joined None pull.entries made);
    pulls = by_pulls c.pulls;
    stage = λ goes. cc;
  } where
    down : IsGoingDown (number_after None pull.entries) made
    down = subst (λ (n : Option ℕ). IsGoingDown n made) c.number goes

    d : Downs (number_after None pull.entries) made
    d = downs (number_after None pull.entries) made down

    own : OwnRelay None (pull.entries ++ made)
    own = own_joined None pull.entries made c.own d.own

    by_pulls : HasPulled pull.given pull.entries → HasPulled pull.given (pull.entries ++ made)
    by_pulls (inl none) =
        inl (ap (λ (xs : List Entry). xs ++ made) none ∙ subst (λ (xs : List Entry). IsGoingDown (number_after None xs) made) none down)
    by_pulls (inr p) = inr (pulls_down pull.given pull.entries made own p d)

  pub came : (mount : List ℕ) (pull : PullSoFar) → PullCourse mount pull → Came pull
  came mount pull begins = record { own = tt; number = refl; pulls = inl refl; stage = λ goes. AtAnswer refl refl }
  came mount pull (has_turn before course goes bytes made now state turn) =
      turn_came before (came mount before course) goes bytes made now state turn
  came mount pull (is_refused before course goes bytes made most) = refused_came before (came mount before course) goes bytes made most
  came mount pull (goes_down before course made goes) = down_came before (came mount before course) made goes

  -- the connection of a relay, whatever happened to its pull
  pub closed_pull : (web : WebAnswers) (mount : List ℕ) (pull : PullSoFar) → PullCourse mount pull → (text : List ℕ)
      → IsClosed web pull.given pull.entries text
  closed_pull web mount pull course text =
      let c = came mount pull course in
      record { own = relay_owns pull.entries c.own; facts = facts_of web pull.given pull.entries text c.pulls }
