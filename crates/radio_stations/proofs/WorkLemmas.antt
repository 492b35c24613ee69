-- What a worker or a relay's thread made, as a chain of its server's steps, and label by label.
use Rattle.std.proofs.Common.{◌≡◌, ℕ, ◌==◌, Bool, true, false, List, [], ◌∷◌, ◌++◌, refl, sym, ap, subst, ◌∙◌}
use Rattle.radio_stations.proofs.Words.{map, if◌then◌else◌, AllByRecursion, append-nil, map-append, flat_map-append, Peer, WebAnswers, Entry, Arrive, Leave, Reply, Arrived, Feeding, Seated, Drawn, Noted, Text, Deny}
use Rattle.radio_stations.proofs.Words.{Finished, Stray, entry, Steps, Chain, IsCalled, PassesGainWhatWasApplied, PullCourse, PullSoFar, IsTakenIn, Connection, LetsNobodyIn, chain_one, chain_then, WatchedOf}
use Rattle.radio_stations.proofs.Words.{WatchedSteps, HasLabelOrMoment, by_number, AreTurnsOf, ConnectionTurn, ConnectionsMeanTheirBytes, StrangersAreOnlyAnswered, applied_in, HasWorked, IsOfItsConnection, IsOfItsPull}
use Rattle.radio_stations.proofs.Words.{IsServedBy, IsUnder, Made, PassesAreOfTheirWork, Roll, UnderLabel, closed, enrolled, made_entries, entries_on, made_entry_on, gone, happening, here, let_go, made_on, moment}
use Rattle.radio_stations.proofs.Words.{nothing_yet, pulled, pulled_in, WorkIsOfItsConnections, served, told, took_in, turned_off, unknown}
use Rattle.radio_headline.proofs.Logs.{itself}

entries_joined : (made more : List Made) → made_entries (made ++ more) ≡ made_entries made ++ made_entries more
entries_joined made more = map-append (λ (m : Made). m.done) made more

entries_of : (label : ℕ) (entries : List Entry) → made_entries (map (made_on label) entries) ≡ entries
entries_of label [] = refl
entries_of label (e ∷ entries) = ap (λ (xs : List Entry). e ∷ xs) (entries_of label entries)

module _ {S : Type 0} (steps : Steps S) (web : WebAnswers) where
  abbrev Leads : S → List Made → S → Type 0
  Leads from made to = Chain steps from (made_entries made) to

  leads_then : (from mid to : S) (made more : List Made) → Leads from made mid → Leads mid more to → Leads from (made ++ more) to
  leads_then from mid to made more a b =
      subst (λ (es : List Entry). Chain steps from es to) (sym (entries_joined made more))
      (chain_then steps from mid to (made_entries made) (made_entries more) a b)

  leads_one : (first from to : S) (made : List Made) (m : Made) → Leads first made from → steps from m.done.event m.done.reply to
      → Leads first (made ++ m ∷ []) to
  leads_one first from to made m before step = leads_then first from to made (m ∷ []) before (chain_one steps from to m.done step)

  worked : (first last : S) (made : List Made) (roll : Roll) → HasWorked steps web first made last roll → Leads first made last
  worked first last made roll nothing_yet = refl
  worked first last made roll (told before from to was done ms reply step) =
      leads_one first from last before (moment ms reply) (worked first from before was done) step
  worked first last made roll (took_in before from to was done label new peer reply c step taken) =
      leads_one first from last before (made_on label (entry (Arrive peer) reply)) (worked first from before was done) step
  worked first last made roll (turned_off before from to was done label new peer reply step nobody) =
      leads_one first from last before (made_on label (entry (Arrive peer) reply)) (worked first from before was done) step
  worked first last made roll (served before from to was done label c c' there ms patience news turn) =
      leads_then first from last before (map (made_on label) turn.entries) (worked first from before was done)
      (subst (λ (es : List Entry). Chain steps from es last) (sym (entries_of label turn.entries)) turn.chain)
  worked first last made roll (let_go before from to was done label c there stayed reply step) =
      leads_one first from last before (made_on label (entry (Leave c.id) reply)) (worked first from before was done) step
  worked first last made roll (pulled_in before from to was done label new mount pull course chain) =
      leads_then first from last before (map (made_on label) pull.entries) (worked first from before was done)
      (subst (λ (es : List Entry). Chain steps from es last) (sym (entries_of label pull.entries)) chain)

-- a watched server steps as it does unwatched
module _ {S : Type 0} (steps : Steps S) where
  unwatched : (from to : WatchedOf S) (entries : List Entry) → Chain (WatchedSteps steps) from entries to → Chain steps from.server entries to.server
  unwatched from to [] e = ap (λ (w : WatchedOf S). w.server) e
  unwatched from to (e ∷ entries) (mid, step, others) = (mid.server, step.0, unwatched mid to entries others)

pub passes_of_work : PassesGainWhatWasApplied → PassesAreOfTheirWork
passes_of_work gain opening web first last made roll done =
    gain opening first.server last.server (made_entries made)
    (unwatched (IsCalled true opening) first last (made_entries made)
    (worked (WatchedSteps (IsCalled true opening)) web first last made roll done))

abbrev IsPlaced : Made → Type 0
IsPlaced m = HasLabelOrMoment (happening m)

all_placed : (made more : List Made) → AllByRecursion IsPlaced made → AllByRecursion IsPlaced more → AllByRecursion IsPlaced (made ++ more)
all_placed [] more h k = k
all_placed (m ∷ made) more h k = (h.0, all_placed made more h.1 k)

labelled : (label : ℕ) (entries : List Entry) → AllByRecursion IsPlaced (map (made_on label) entries)
labelled label [] = tt
labelled label (e ∷ entries) = ((λ none. cc), labelled label entries)

module _ {S : Type 0} (steps : Steps S) (web : WebAnswers) where
  are_moments : (first last : S) (made : List Made) (roll : Roll) → HasWorked steps web first made last roll → AllByRecursion IsPlaced made
  are_moments first last made roll nothing_yet = tt
  are_moments first last made roll (told before from to was done ms reply step) =
      all_placed before (moment ms reply ∷ []) (are_moments first from before was done) ((λ none. (ms, refl)), tt)
  are_moments first last made roll (took_in before from to was done label new peer reply c step taken) =
      all_placed before (made_on label (entry (Arrive peer) reply) ∷ []) (are_moments first from before was done) (labelled label (entry (Arrive peer) reply ∷ []))
  are_moments first last made roll (turned_off before from to was done label new peer reply step nobody) =
      all_placed before (made_on label (entry (Arrive peer) reply) ∷ []) (are_moments first from before was done) (labelled label (entry (Arrive peer) reply ∷ []))
  are_moments first last made roll (served before from to was done label c c' there ms patience news turn) =
      all_placed before (map (made_on label) turn.entries) (are_moments first from before was done) (labelled label turn.entries)
  are_moments first last made roll (let_go before from to was done label c there stayed reply step) =
      all_placed before (made_on label (entry (Leave c.id) reply) ∷ []) (are_moments first from before was done) (labelled label (entry (Leave c.id) reply ∷ []))
  are_moments first last made roll (pulled_in before from to was done label new mount pull course chain) =
      all_placed before (map (made_on label) pull.entries) (are_moments first from before was done) (labelled label pull.entries)

-- what is under one label
on_joined : (label : ℕ) (made more : List Made) → entries_on label (made ++ more) ≡ entries_on label made ++ entries_on label more
on_joined label made more = flat_map-append (made_entry_on label) made more

on_here : (label : ℕ) (e : Entry) → entries_on label (made_on label e ∷ []) ≡ e ∷ []
on_here label e = append-nil (made_entry_on label (made_on label e)) ∙ ap (λ (b : Bool). if b then e ∷ [] else []) (itself label)

on_elsewhere : (label other : ℕ) (e : Entry) → (label == other) ≡ false → entries_on other (made_on label e ∷ []) ≡ []
on_elsewhere label other e apart = append-nil (made_entry_on other (made_on label e)) ∙ ap (λ (b : Bool). if b then e ∷ [] else []) apart

all_here : (label : ℕ) (entries : List Entry) → entries_on label (map (made_on label) entries) ≡ entries
all_here label [] = refl
all_here label (e ∷ entries) =
    ap (λ (b : Bool). (if b then e ∷ [] else []) ++ entries_on label (map (made_on label) entries)) (itself label)
    ∙ ap (λ (xs : List Entry). e ∷ xs) (all_here label entries)

all_elsewhere : (label other : ℕ) (entries : List Entry) → (label == other) ≡ false → entries_on other (map (made_on label) entries) ≡ []
all_elsewhere label other [] apart = refl
all_elsewhere label other (e ∷ entries) apart =
    ap (λ (b : Bool). (if b then e ∷ [] else []) ++ entries_on other (map (made_on label) entries)) apart
    ∙ all_elsewhere label other entries apart

pub enrolled_here : (label : ℕ) (place : UnderLabel) (roll : Roll) → enrolled label place roll label ≡ place
enrolled_here label place roll = ap (λ (b : Bool). if b then place else roll label) (itself label)

pub enrolled_elsewhere : (label other : ℕ) (place : UnderLabel) (roll : Roll) → (label == other) ≡ false → enrolled label place roll other ≡ roll other
enrolled_elsewhere label other place roll apart = ap (λ (b : Bool). if b then place else roll other) apart

module _ {S : Type 0} (steps : Steps S) (web : WebAnswers) where
  -- one more turn
  turns_then : (c mid c' : Connection) (turns : List (ConnectionTurn steps)) (turn : ConnectionTurn steps) → AreTurnsOf steps c turns mid
      → turn.before ≡ mid → turn.after ≡ c' → AreTurnsOf steps c (turns ++ turn ∷ []) c'
  turns_then c mid c' [] turn same begins ends = (begins ∙ same, sym ends)
  turns_then c mid c' (one ∷ turns) turn (first, others) begins ends = (first, turns_then one.after mid c' turns turn others begins ends)

  -- how the connection of a label came, and its turns since
  record Came (entries : List Entry) (c : Connection) : Type 0 where
    pub peer : Peer
    pub reply : Reply
    pub first : Connection
    pub turns : List (ConnectionTurn steps)
    pub taken : IsTakenIn (record { web = web; peer = peer; reply = reply }) [] [] first
    pub are : AreTurnsOf steps first turns c
    pub all : entries ≡ entry (Arrive peer) reply ∷ applied_in steps turns

  -- how the connection came that was let go
  record Went (entries : List Entry) (c : Connection) : Type 0 where
    pub before : List Entry
    pub reply : Reply
    pub stayed : c.status.has_left ≡ false
    pub came : Came before c
    pub all : entries ≡ before ++ entry (Leave c.id) reply ∷ []

  abbrev IsAt : List Entry → UnderLabel → Type 0
  IsAt entries unknown = entries ≡ []
  IsAt entries (here c) = Came entries c
  IsAt entries (gone c) = Went entries c
  IsAt entries closed = (peer : Peer) × (reply : Reply) × LetsNobodyIn reply × (entries ≡ entry (Arrive peer) reply ∷ [])
  IsAt entries (pulled given) = IsOfItsPull given entries

  abbrev IsAll : List Made → Roll → Type 0
  IsAll made roll = (label : ℕ) → IsAt (entries_on label made) (roll label)

  -- more was made under a label, and the others are as before
  under : (label : ℕ) (made more : List Made) (place : UnderLabel) (roll : Roll) → IsAll made roll
      → ((other : ℕ) → (label == other) ≡ false → entries_on other more ≡ []) → IsAt (entries_on label made ++ entries_on label more) place
      → IsAll (made ++ more) (enrolled label place roll)
  under label made more place roll all silent at other =
      by_number label other
      (λ same. subst (λ (l : ℕ). IsAt (entries_on l (made ++ more)) (enrolled label place roll l)) same
      (subst (λ (p : UnderLabel). IsAt (entries_on label (made ++ more)) p) (sym (enrolled_here label place roll))
      (subst (λ (es : List Entry). IsAt es place) (sym (on_joined label made more)) at)))
      (λ apart. elsewhere apart) where
        elsewhere : (label == other) ≡ false → IsAt (entries_on other (made ++ more)) (enrolled label place roll other)
        elsewhere apart =
            subst (λ (p : UnderLabel). IsAt (entries_on other (made ++ more)) p) (sym (enrolled_elsewhere label other place roll apart))
            (subst (λ (es : List Entry). IsAt es (roll other))
            (sym (on_joined other made more ∙ ap (λ (es : List Entry). entries_on other made ++ es) (silent other apart) ∙ append-nil (entries_on other made))) (all other))

  -- nothing was under it before
  arrived : (entries : List Entry) (label : ℕ) (peer : Peer) (reply : Reply) (c : Connection) → entries ≡ []
      → IsTakenIn (record { web = web; peer = peer; reply = reply }) [] [] c
      → Came (entries ++ entries_on label (made_on label (entry (Arrive peer) reply) ∷ [])) c
  arrived entries label peer reply c none taken = record {
    peer = peer;
    reply = reply;
    first = c;
    turns = [];
    taken = taken;
    are = refl;
    all = ap (λ (es : List Entry). es ++ entries_on label (made_on label (entry (Arrive peer) reply) ∷ [])) none ∙ on_here label (entry (Arrive peer) reply);
  }

  turned : (entries : List Entry) (label : ℕ) (c : Connection) → Came entries c → (turn : ConnectionTurn steps) → turn.before ≡ c
      → Came (entries ++ entries_on label (map (made_on label) turn.serves.entries)) turn.after
  turned entries label c came turn begins = record {
    peer = came.peer;
    reply = came.reply;
    first = came.first;
    turns = came.turns ++ turn ∷ [];
    taken = came.taken;
    are = turns_then came.first c turn.after came.turns turn came.are begins refl;
    all =
        ap (λ (es : List Entry). es ++ entries_on label (map (made_on label) turn.serves.entries)) came.all
        ∙ ap (λ (es : List Entry). entry (Arrive came.peer) came.reply ∷ (applied_in steps came.turns ++ es)) (all_here label turn.serves.entries)
        ∙ ap (λ (es : List Entry). entry (Arrive came.peer) came.reply ∷ es) (sym (one_more came.turns));
  } where
    one_more : (turns : List (ConnectionTurn steps)) → applied_in steps (turns ++ turn ∷ []) ≡ applied_in steps turns ++ turn.serves.entries
    one_more turns =
        flat_map-append (λ (t : ConnectionTurn steps). t.serves.entries) turns (turn ∷ [])
        ∙ ap (λ (es : List Entry). applied_in steps turns ++ es) (append-nil turn.serves.entries)

  pull_of : (entries : List Entry) (label : ℕ) (mount : List ℕ) (pull : PullSoFar) → entries ≡ [] → PullCourse mount pull
      → IsOfItsPull pull.given (entries ++ entries_on label (map (made_on label) pull.entries))
  pull_of entries label mount pull none course = record {
    mount = mount;
    pull = pull;
    course = course;
    same_given = refl;
    same_entries = sym (ap (λ (es : List Entry). es ++ entries_on label (map (made_on label) pull.entries)) none ∙ all_here label pull.entries);
  }

  at_place : (entries : List Entry) (place other : UnderLabel) → place ≡ other → IsAt entries place → IsAt entries other
  at_place entries place other e at = subst (IsAt entries) e at

  so_far : (first last : S) (made : List Made) (roll : Roll) → HasWorked steps web first made last roll → IsAll made roll
  so_far first last made roll nothing_yet = λ label. refl
  so_far first last made roll (told before from to was done ms reply step) = λ label.
      subst (λ (es : List Entry). IsAt es (roll label)) (sym (on_joined label before (moment ms reply ∷ []) ∙ append-nil (entries_on label before)))
      (so_far first from before was done label)
  so_far first last made roll (took_in before from to was done label new peer reply c step taken) =
      under label before (made_on label (entry (Arrive peer) reply) ∷ []) (here c) was (so_far first from before was done)
      (λ other apart. on_elsewhere label other (entry (Arrive peer) reply) apart)
      (arrived (entries_on label before) label peer reply c
      (at_place (entries_on label before) (was label) unknown new (so_far first from before was done label)) taken)
  so_far first last made roll (turned_off before from to was done label new peer reply step nobody) =
      under label before (made_on label (entry (Arrive peer) reply) ∷ []) closed was (so_far first from before was done)
      (λ other apart. on_elsewhere label other (entry (Arrive peer) reply) apart) (
        peer,
        reply,
        nobody,
        ap (λ (es : List Entry). es ++ entries_on label (made_on label (entry (Arrive peer) reply) ∷ []))
            (at_place (entries_on label before) (was label) unknown new (so_far first from before was done label))
            ∙ on_here label (entry (Arrive peer) reply),
      )
  so_far first last made roll (served before from to was done label c c' there ms patience news turn) =
      under label before (map (made_on label) turn.entries) (here c') was (so_far first from before was done)
      (λ other apart. all_elsewhere label other turn.entries apart)
      (turned (entries_on label before) label c (at_place (entries_on label before) (was label) (here c) there (so_far first from before was done label))
      (record { ms = ms; patience = patience; news = news; from = from; to = last; before = c; after = c'; serves = turn }) refl)
  so_far first last made roll (let_go before from to was done label c there stayed reply step) =
      under label before (made_on label (entry (Leave c.id) reply) ∷ []) (gone c) was (so_far first from before was done)
      (λ other apart. on_elsewhere label other (entry (Leave c.id) reply) apart)
      (record {
        before = entries_on label before;
        reply = reply;
        stayed = stayed;
        came = at_place (entries_on label before) (was label) (here c) there (so_far first from before was done label);
        all = ap (λ (es : List Entry). entries_on label before ++ es) (on_here label (entry (Leave c.id) reply));
      })
  so_far first last made roll (pulled_in before from to was done label new mount pull course chain) =
      under label before (map (made_on label) pull.entries) (pulled pull.given) was (so_far first from before was done)
      (λ other apart. all_elsewhere label other pull.entries apart)
      (pull_of (entries_on label before) label mount pull
      (at_place (entries_on label before) (was label) unknown new (so_far first from before was done label)) course)

  module _ (clients : ConnectionsMeanTheirBytes steps) (strangers : StrangersAreOnlyAnswered steps) where
    served_by : (peer : Peer) (reply : Reply) (first last : Connection) (turns : List (ConnectionTurn steps))
        → IsTakenIn (record { web = web; peer = peer; reply = reply }) [] [] first → AreTurnsOf steps first turns last
        → IsServedBy web peer reply last (applied_in steps turns)
    served_by peer (Arrived id) first last turns taken are = clients web peer id first last turns taken are
    served_by peer Feeding first last turns taken are = strangers web peer Feeding first last turns tt taken are
    served_by peer (Seated interval head) first last turns taken are = strangers web peer (Seated interval head) first last turns tt taken are
    served_by peer (Drawn bytes title) first last turns taken are = strangers web peer (Drawn bytes title) first last turns tt taken are
    served_by peer Noted first last turns taken are = strangers web peer Noted first last turns tt taken are
    served_by peer (Text text) first last turns taken are = strangers web peer (Text text) first last turns tt taken are
    served_by peer (Deny rule) first last turns taken are = strangers web peer (Deny rule) first last turns tt taken are
    served_by peer (Finished rule) first last turns taken are = strangers web peer (Finished rule) first last turns tt taken are
    served_by peer Stray first last turns taken are = strangers web peer Stray first last turns tt taken are

    of_came : (entries : List Entry) (c : Connection) → Came entries c → IsOfItsConnection web entries c
    of_came entries c came = record {
      peer = came.peer;
      reply = came.reply;
      applied = applied_in steps came.turns;
      in_order = came.all;
      served = served_by came.peer came.reply came.first c came.turns came.taken came.are;
    }

    of_place : (entries : List Entry) (place : UnderLabel) → IsAt entries place → IsUnder web place entries
    of_place entries unknown none = none
    of_place entries (here c) came = of_came entries c came
    of_place entries (gone c) went = (went.before, went.reply, went.stayed, went.all, of_came went.before c went.came)
    of_place entries closed at = at
    of_place entries (pulled given) at = at

    pub work_of_connections : WorkIsOfItsConnections steps web
    work_of_connections first last made roll done = record {
      labels = λ label. of_place (entries_on label made) (roll label) (so_far first last made roll done label);
      moments = are_moments steps web first last made roll done;
    }
