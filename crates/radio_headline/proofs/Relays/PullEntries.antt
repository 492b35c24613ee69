-- The entries of a relay: of one event, of items, and of its going down.
use Rattle.std.proofs.Common.{◌≡◌, ◌⊎◌, ℕ, List, [], ◌∷◌, ◌++◌, Option, None, Some, inl, inr, refl, sym, ap, subst, ◌∙◌, append_assoc}
use Rattle.std.specs.Option.{option_map}
use Rattle.radio_headline.proofs.Words.{flat_map, append-nil, Shown, Entry, Event, RelayUp, RelayDown, Reply, State, Running, Shut, Ending, entry, PullItem, Up, Sound, AreOfEvent, AreOfEventIf, AreOfItems, IsDownIfShut}
use Rattle.radio_headline.proofs.Words.{IsGoingDown, number_after, Follows, NumberedState, state_after_reply, event_of, running_pull, shut_by, pushed, pushed_by}
use Rattle.radio_relay.specs.declared.items.PullItem.TheVariants.{Title as Named}
use Rattle.radio_headline.proofs.Logs.{Each, each_joined}
use Rattle.radio_headline.proofs.Relays.RelayWords.{AreNoUps, IsCut, IsGoing, IsNoUp, IsNotRefused, OfRelay, OwnRelay}
use Rattle.radio_headline.proofs.Relays.RelayWords.{cut_joined, number_joined, number_stays, own_joined, refused_shuts}
use Rattle.radio_headline.proofs.Connections.{events_of}
use Rattle.radio_headline.proofs.ClientEvents.{events_of_joined, pushed_joined}

-- a front of nothing is nothing
pub front_none : {A : Type 0} → (xs ys : List A) → xs ++ ys ≡ [] → xs ≡ []
front_none [] ys e = refl
front_none (x ∷ xs) ys e = cc

-- what two lists of entries push, one behind the other
pub entries_push : (log more : List Entry) → pushed (events_of (log ++ more)) ≡ pushed (events_of log) ++ pushed (events_of more)
entries_push log more = ap pushed (events_of_joined log more) ∙ pushed_joined (events_of log) (events_of more)

-- the relay of this number goes down, or does nothing
pub record Downs (number : Option ℕ) (entries : List Entry) : Type 0 where
  pub own : OwnRelay number entries
  pub stays : number ≡ number_after number entries
  pub silent : pushed (events_of entries) ≡ []
  pub plain : Each (λ e. IsNoUp e.event) entries
  pub going : Each (λ e. IsGoing e.event) entries
  pub cut : IsCut entries

stays_up : (number : Option ℕ) → Downs number []
stays_up number = record { own = tt; stays = refl; silent = refl; plain = tt; going = tt; cut = tt }

goes_down : (id : ℕ) (reply : Reply) → Downs (Some id) (entry (RelayDown id) reply ∷ [])
goes_down id reply = record {
  own = (refl, tt);
  stays = sym (number_stays id reply);
  silent = refl;
  plain = (tt, tt);
  going = (tt, tt);
  cut = ((λ r. tt), tt);
}

pub downs : (number : Option ℕ) (entries : List Entry) → IsGoingDown number entries → Downs number entries
downs None entries none = subst (Downs None) (sym none) (stays_up None)
downs (Some id) entries (reply, e) = subst (Downs (Some id)) (sym e) (goes_down id reply)

downs_if_shut : (state : State) (number : Option ℕ) (entries : List Entry) → IsDownIfShut state number entries → Downs number entries
downs_if_shut Running number entries none = subst (Downs number) (sym none) (stays_up number)
downs_if_shut (Shut ending) number entries goes = downs number entries goes

none_if_running : (state : State) (number : Option ℕ) (entries : List Entry) → IsDownIfShut state number entries → state ≡ Running → entries ≡ []
none_if_running Running number entries none run = none
none_if_running (Shut ending) number entries goes run = cc

-- an event of the relay was applied
pub record HasAsked (number : Option ℕ) (event : Event) (entries : List Entry) (after : NumberedState) : Type 0 where
  pub reply : Reply
  pub down : List Entry
  pub in_order : entries ≡ entry event reply ∷ down
  pub own : OfRelay number event → OwnRelay number entries
  pub stands : after.number ≡ number_after number entries
  pub pushes : pushed (events_of entries) ≡ pushed_by event
  pub plain : Each (λ e. IsNoUp e.event) down
  pub quiet : after.state ≡ Running → Each IsNotRefused entries
  pub cut : IsCut entries

pub has_asked : (number : Option ℕ) (event : Event) (entries : List Entry) (after : NumberedState) → AreOfEvent number event entries after
    → HasAsked number event entries after
has_asked number event entries after a =
    let d = downs_if_shut after.state after.number a.down a.goes_down in
    let now : after.number ≡ (state_after_reply number a.reply).number = ap (λ (s : NumberedState). s.number) a.is_answered in
    record {
      reply = a.reply;
      down = a.down;
      in_order = a.in_order;
      own = λ his. subst (OwnRelay number) (sym a.in_order) (his, subst (λ (n : Option ℕ). OwnRelay n a.down) now d.own);
      stands = d.stays ∙ ap (λ (n : Option ℕ). number_after n a.down) now ∙ ap (number_after number) (sym a.in_order);
      pushes = ap (λ (es : List Entry). pushed (events_of es)) a.in_order ∙ ap (λ (xs : List ℕ). pushed_by event ++ xs) d.silent
          ∙ append-nil (pushed_by event);
      plain = d.plain;
      quiet = λ run. subst (Each IsNotRefused) (sym a.in_order) (
        (λ r. refused_shuts number a.reply (ap (λ (s : NumberedState). s.state) (sym a.is_answered) ∙ run) r),
        subst (Each IsNotRefused) (sym (none_if_running after.state after.number a.down a.goes_down run)) tt,
      );
      cut = subst IsCut (sym a.in_order) ((λ r. d.going), d.cut);
    }

-- By these entries of a relay of this number a front of this sound is pushed. If the pull goes on and the relay is up, all of it is pushed.
pub record HasBrought (number : Option ℕ) (sound : List ℕ) (entries : List Entry) (after : NumberedState) : Type 0 where
  pub own : OwnRelay number entries
  pub stands : after.number ≡ number_after number entries
  pub rest : List ℕ
  pub front : pushed (events_of entries) ++ rest ≡ sound
  pub whole : after.state ≡ Running → (after.number ≡ None) ⊎ (rest ≡ [])
  pub quiet : after.state ≡ Running → Each IsNotRefused entries
  pub cut : IsCut entries

nothing_brought : (number : Option ℕ) (sound : List ℕ) (entries : List Entry) (after : NumberedState) → (number ≡ None) ⊎ (sound ≡ [])
    → (entries ≡ []) × (after ≡ running_pull number) → HasBrought number sound entries after
nothing_brought number sound entries after none b =
    let same : after.number ≡ number = ap (λ (s : NumberedState). s.number) b.1 in
    subst (λ (es : List Entry). HasBrought number sound es after) (sym b.0) (record {
      own = tt;
      stands = same;
      rest = sound;
      front = refl;
      whole = λ run. elim none [
        | inl e ↦ inl (same ∙ e)
        | inr e ↦ inr e
      ];
      quiet = λ run. tt;
      cut = tt;
    })

-- a relay goes down, whose pull is shut by this
pub down_brought : (number : Option ℕ) (ending : Ending) (entries : List Entry) → IsGoingDown number entries
    → HasBrought number [] entries (shut_by number ending)
down_brought number ending entries goes =
    let d = downs number entries goes in
    record {
      own = d.own;
      stands = d.stays;
      rest = [];
      front = append-nil (pushed (events_of entries)) ∙ d.silent;
      whole = λ run. inr refl;
      quiet = λ run. cc;
      cut = d.cut;
    }

-- an event was applied, and then the rest if the pull goes on
module _ (number : Option ℕ) (event : Event) (his : OfRelay number event) (sound : List ℕ) (first later : List Entry) (now after : NumberedState)
    (h : HasAsked number event first now) where
  goes_on : now.state ≡ Running → HasBrought now.number sound later after → HasBrought number (pushed_by event ++ sound) (first ++ later) after
  goes_on run r = record {
    own = own_joined number first later (h.own his) (subst (λ (n : Option ℕ). OwnRelay n later) h.stands r.own);
    stands = r.stands ∙ ap (λ (n : Option ℕ). number_after n later) h.stands ∙ sym (number_joined number first later);
    rest = r.rest;
    front = ap (λ (xs : List ℕ). xs ++ r.rest) (entries_push first later)
        ∙ append_assoc (pushed (events_of first)) (pushed (events_of later)) r.rest
        ∙ ap (λ (xs : List ℕ). xs ++ (pushed (events_of later) ++ r.rest)) h.pushes
        ∙ ap (λ (xs : List ℕ). pushed_by event ++ xs) r.front;
    whole = r.whole;
    quiet = λ goes. each_joined IsNotRefused first later (h.quiet run) (r.quiet goes);
    cut = cut_joined first later (h.quiet run) r.cut;
  }

  shut_here : (ending : Ending) → now.state ≡ Shut ending → (after ≡ now) × (later ≡ [])
      → HasBrought number (pushed_by event ++ sound) (first ++ later) after
  shut_here ending shut same =
      subst (λ (es : List Entry). HasBrought number (pushed_by event ++ sound) es after)
      (sym (append-nil first) ∙ ap (λ (xs : List Entry). first ++ xs) (sym same.1)) (record {
        own = h.own his;
        stands = ap (λ (s : NumberedState). s.number) same.0 ∙ h.stands;
        rest = sound;
        front = ap (λ (xs : List ℕ). xs ++ sound) h.pushes;
        whole = λ run. absurd (stopped run);
        quiet = λ run. absurd (stopped run);
        cut = h.cut;
      }) where
        stopped : after.state ≡ Running → ⊥
        stopped run = let both : Shut ending ≡ Running = sym shut ∙ sym (ap (λ (s : NumberedState). s.state) same.0) ∙ run in cc

  then_brought : (Rest : Type 0) → (Rest → HasBrought now.number sound later after) → (state : State) → now.state ≡ state
      → Follows state Rest ((after ≡ now) × (later ≡ [])) → HasBrought number (pushed_by event ++ sound) (first ++ later) after
  then_brought Rest brings Running run f = goes_on run (brings f)
  then_brought Rest brings (Shut ending) shut f = shut_here ending shut f

-- the sound among items
abbrev pub sound_of_item : PullItem → List ℕ
sound_of_item (Sound block) = block
sound_of_item item = []

abbrev pub sound_of_items : List PullItem → List ℕ
sound_of_items items = flat_map sound_of_item items

pushed_as : (mount : List ℕ) (id : ℕ) (item : PullItem) → pushed_by (event_of mount id item) ≡ sound_of_item item
pushed_as mount id (Up shown) = refl
pushed_as mount id (Sound block) = refl
pushed_as mount id (Named text) = refl

his_event : (mount : List ℕ) (id : ℕ) (item : PullItem) → OfRelay (Some id) (event_of mount id item)
his_event mount id (Up shown) = tt
his_event mount id (Sound block) = refl
his_event mount id (Named text) = refl

-- what items ask for was applied
pub items_brought : (mount : List ℕ) (items : List PullItem) (number : Option ℕ) (entries : List Entry) (after : NumberedState)
    → AreOfItems mount number items entries after → HasBrought number (sound_of_items items) entries after
items_brought mount [] number entries after b = nothing_brought number [] entries after (inr refl) b
items_brought mount (Up shown ∷ items) None entries after (now, first, later, joined, asked, follows) =
    subst (λ (es : List Entry). HasBrought None (sound_of_items items) es after) (sym joined)
    (then_brought None (RelayUp mount shown) tt (sound_of_items items) first later now after (has_asked None (RelayUp mount shown) first now asked)
    (AreOfItems mount now.number items later after) (λ r. items_brought mount items now.number later after r) now.state refl follows)
items_brought mount (Sound block ∷ items) None entries after b = nothing_brought None (sound_of_items (Sound block ∷ items)) entries after (inl refl) b
items_brought mount (Named text ∷ items) None entries after b = nothing_brought None (sound_of_items items) entries after (inl refl) b
items_brought mount (item ∷ items) (Some id) entries after (now, first, later, joined, asked, follows) =
    subst (λ (es : List Entry). HasBrought (Some id) (sound_of_item item ++ sound_of_items items) es after) (sym joined)
    (subst (λ (xs : List ℕ). HasBrought (Some id) (xs ++ sound_of_items items) (first ++ later) after) (pushed_as mount id item)
    (then_brought (Some id) (event_of mount id item) (his_event mount id item) (sound_of_items items) first later now after
    (has_asked (Some id) (event_of mount id item) first now asked)
    (AreOfItems mount now.number items later after) (λ r. items_brought mount items now.number later after r) now.state refl follows))

-- a single event was applied if the relay is up, and it pushes nothing
pub event_brought : (number : Option ℕ) (event : ℕ → Event) (entries : List Entry) (after : NumberedState) → ((id : ℕ) → OfRelay (Some id) (event id))
    → ((id : ℕ) → pushed_by (event id) ≡ []) → AreOfEventIf number (option_map event number) entries after → HasBrought number [] entries after
event_brought None event entries after his silent b = nothing_brought None [] entries after (inr refl) b
event_brought (Some id) event entries after his silent b =
    let h = has_asked (Some id) (event id) entries after b in
    record {
      own = h.own (his id);
      stands = h.stands;
      rest = [];
      front = append-nil (pushed (events_of entries)) ∙ h.pushes ∙ silent id;
      whole = λ run. inr refl;
      quiet = h.quiet;
      cut = h.cut;
    }

-- No relay comes up by an event that is none.
plain_asked : (number : Option ℕ) (event : Event) (entries : List Entry) (after : NumberedState) → HasAsked number event entries after → IsNoUp event
    → Each (λ e. IsNoUp e.event) entries
plain_asked number event entries after h plain = subst (Each (λ e. IsNoUp e.event)) (sym h.in_order) (plain, h.plain)

pub plain_event : (number : Option ℕ) (event : ℕ → Event) (entries : List Entry) (after : NumberedState) → ((id : ℕ) → IsNoUp (event id))
    → AreOfEventIf number (option_map event number) entries after → Each (λ e. IsNoUp e.event) entries
plain_event None event entries after plain b = subst (Each (λ e. IsNoUp e.event)) (sym b.0) tt
plain_event (Some id) event entries after plain b = plain_asked (Some id) (event id) entries after (has_asked (Some id) (event id) entries after b) (plain id)

plain_rest : (Rest : Type 0) (later : List Entry) (now after : NumberedState) → (Rest → Each (λ e. IsNoUp e.event) later) → (state : State)
    → Follows state Rest ((after ≡ now) × (later ≡ [])) → Each (λ e. IsNoUp e.event) later
plain_rest Rest later now after plain Running f = plain f
plain_rest Rest later now after plain (Shut ending) f = subst (Each (λ e. IsNoUp e.event)) (sym f.1) tt

-- an event that brings no relay up was applied, and then such a rest
plain_both : (number : Option ℕ) (event : Event) (Rest : Type 0) (entries first later : List Entry) (now after : NumberedState) → entries ≡ first ++ later
    → AreOfEvent number event first now → IsNoUp event → (Rest → Each (λ e. IsNoUp e.event) later) → Follows now.state Rest ((after ≡ now) × (later ≡ []))
    → Each (λ e. IsNoUp e.event) entries
plain_both number event Rest entries first later now after joined asked none plain follows =
    subst (Each (λ e. IsNoUp e.event)) (sym joined)
    (each_joined (λ e. IsNoUp e.event) first later (plain_asked number event first now (has_asked number event first now asked) none)
    (plain_rest Rest later now after plain now.state follows))

pub plain_items : (mount : List ℕ) (items : List PullItem) (number : Option ℕ) (entries : List Entry) (after : NumberedState)
    → AreOfItems mount number items entries after → AreNoUps items → Each (λ e. IsNoUp e.event) entries
plain_items mount [] number entries after b none = subst (Each (λ e. IsNoUp e.event)) (sym b.0) tt
plain_items mount (Up shown ∷ items) number entries after b none = elim none [ ]
plain_items mount (Sound block ∷ items) None entries after b none = subst (Each (λ e. IsNoUp e.event)) (sym b.0) tt
plain_items mount (Named text ∷ items) None entries after b none = subst (Each (λ e. IsNoUp e.event)) (sym b.0) tt
plain_items mount (Sound block ∷ items) (Some id) entries after (now, first, later, joined, asked, follows) none =
    plain_both (Some id) (event_of mount id (Sound block)) (AreOfItems mount now.number items later after) entries first later now after joined asked tt
    (λ r. plain_items mount items now.number later after r none) follows
plain_items mount (Named text ∷ items) (Some id) entries after (now, first, later, joined, asked, follows) none =
    plain_both (Some id) (event_of mount id (Named text)) (AreOfItems mount now.number items later after) entries first later now after joined asked tt
    (λ r. plain_items mount items now.number later after r none) follows

-- the relay of this mount comes up first, and no other does
pub record ComesUp (mount : List ℕ) (shown : Shown) (entries : List Entry) : Type 0 where
  pub reply : Reply
  pub behind : List Entry
  pub in_order : entries ≡ entry (RelayUp mount shown) reply ∷ behind
  pub no_more : Each (λ e. IsNoUp e.event) behind

pub comes_up : (mount : List ℕ) (shown : Shown) (items : List PullItem) (entries : List Entry) (after : NumberedState)
    → AreOfItems mount None (Up shown ∷ items) entries after → AreNoUps items → ComesUp mount shown entries
comes_up mount shown items entries after (now, first, later, joined, asked, follows) none =
    let h = has_asked None (RelayUp mount shown) first now asked in
    record {
      reply = h.reply;
      behind = h.down ++ later;
      in_order = joined ∙ ap (λ (xs : List Entry). xs ++ later) h.in_order;
      no_more = each_joined (λ e. IsNoUp e.event) h.down later h.plain
          (plain_rest (AreOfItems mount now.number items later after) later now after (λ r. plain_items mount items now.number later after r none) now.state
          follows);
    }
