-- Bytes that are read, and more bytes after them, are read as both in one piece.
use Rattle.std.proofs.Common.{◌≡◌, inl, inr, ℕ, List, [], ◌∷◌, ◌++◌, Result, Ok, Err, refl, sym, ap, subst, ◌∙◌, append_assoc}
use Rattle.radio_stations.proofs.Words.{append-nil, flat_map-append, Event, Progress, More, Whole, HeadFault, RequestParts, ShowsRequest, IsStableReading, IsReading, Hears, Head, Body, Nothing, Conversation, IsHeardIn}
use Rattle.radio_stations.proofs.Words.{PiecesAreHeardAsOne, atoms, event_atoms, heard_then, unheard, EventReading, HearsAs, IsHeard, body_heard, head_heard, nothing_held, IsHeardInOne}
use Rattle.radio_stations.proofs.Alike.{IsAlike, AreSo, alike_then, hears_so}

-- both together have a reading
module _ (settled : IsStableReading ShowsRequest) (c : Conversation) (first more : List ℕ) (one : EventReading) where
  abbrev WholeAs : Hears → Type 0
  WholeAs v = (whole : EventReading) × HearsAs v c (first ++ more) whole

  of_reading : (reading : Result (Progress RequestParts) HeadFault) → IsReading ShowsRequest ((c.held ++ first) ++ more) reading → WholeAs Head
  of_reading reading r = (
    head_heard c (c.held ++ (first ++ more)) reading,
    (reading, subst (λ (bytes : List ℕ). IsReading ShowsRequest bytes reading) (append_assoc c.held first more) r, refl),
  )

  -- the head goes on
  goes_on : (next : EventReading) → c.hears ≡ Head → HearsAs c.hears (record c { held = c.held ++ first }) more next → WholeAs Head
  goes_on next head is = let r = subst (λ (v : Hears). HearsAs v (record c { held = c.held ++ first }) more next) head is in of_reading r.0 r.1

  by_reading : (next : EventReading) → c.hears ≡ Head → IsHeard one.conversation more next → (reading : Result (Progress RequestParts) HeadFault)
      → IsReading ShowsRequest (c.held ++ first) reading → one ≡ head_heard c (c.held ++ first) reading → WholeAs Head
  by_reading next head is (Ok More) r e =
      goes_on next head (subst (λ (x : EventReading). IsHeard x.conversation more next) e is)
  by_reading next head is (Ok (Whole request length)) r e = of_reading (Ok (Whole request length)) (settled (c.held ++ first) more (Ok (Whole request length)) r (λ same. cc))
  by_reading next head is (Err fault) r e = of_reading (Err fault) (settled (c.held ++ first) more (Err fault) r (λ same. cc))

  by_kind : (next : EventReading) → IsHeard one.conversation more next → (v : Hears) → c.hears ≡ v → HearsAs v c first one → WholeAs v
  by_kind next is Head head (reading, r, e) = by_reading next head is reading r e
  by_kind next is (Body body) head e = (body_heard (nothing_held c) [] body.place (first ++ more), refl)
  by_kind next is Nothing head e = (record { events = []; conversation = c }, refl)

  whole_of : (next : EventReading) → IsHeard c first one → IsHeard one.conversation more next → WholeAs c.hears
  whole_of next was is = by_kind next is c.hears refl was

-- and it is the reading of the one, and then of the other in a conversation that reads on as the first
pub record IsTogether (c : Conversation) (bytes : List ℕ) (one next : EventReading) : Type 0 where
  pub whole : EventReading
  pub is_heard : IsHeardInOne c bytes whole
  pub events : atoms whole.events ≡ atoms one.events ++ atoms next.events
  pub conversation : IsAlike whole.conversation next.conversation

module _ (settled : IsStableReading ShowsRequest) (pieces : PiecesAreHeardAsOne) (c : Conversation) (first more : List ℕ) (one : EventReading) (next : EventReading) where
  behind : IsHeard c first one → (then_heard : EventReading) → IsHeard one.conversation more then_heard → AreSo then_heard next → IsTogether c (first ++ more) one next
  behind was then_heard is same =
      let whole = whole_of settled c first more one then_heard was is in
      let cut = heard_then one (heard_then then_heard (unheard then_heard.conversation)) in
      let in_pieces : IsHeardIn c (first ∷ more ∷ []) cut =
      (one, was, heard_then then_heard (unheard then_heard.conversation), (then_heard, is, unheard then_heard.conversation, refl, refl), refl) in
      let agree = pieces c (first ++ more) (first ∷ more ∷ []) cut whole.0
      (record { some = λ e. cc; joined = ap (λ (xs : List ℕ). first ++ xs) (append-nil more) }) in_pieces whole.1 in
      record {
        whole = whole.0;
        is_heard = inr whole.1;
        events =
            sym agree.events
            ∙ flat_map-append event_atoms one.events (then_heard.events ++ [])
            ∙ ap (λ (es : List Event). atoms one.events ++ atoms es) (append-nil then_heard.events ∙ same.events);
        conversation =
            alike_then whole.0.conversation then_heard.conversation next.conversation
            (record {
              id = ap (λ (x : Conversation). x.id) (sym agree.conversation);
              held = ap (λ (x : Conversation). x.held) (sym agree.conversation);
              hears = ap (λ (x : Conversation). x.hears) (sym agree.conversation);
              web = ap (λ (x : Conversation). x.says.web) (sym agree.conversation);
            }) same.conversation;
      }

  -- nothing was read before
  begins : (then_heard : EventReading) → IsHeard one.conversation more then_heard → AreSo then_heard next → (first ≡ []) × (one ≡ unheard c)
      → IsTogether c (first ++ more) one next
  begins then_heard is same none = record {
    whole = then_heard;
    is_heard = inr (subst (λ (bytes : List ℕ). IsHeard c bytes then_heard) (ap (λ (xs : List ℕ). xs ++ more) (sym none.0))
        (subst (λ (x : EventReading). IsHeard x.conversation more then_heard) none.1 is));
    events = ap atoms same.events ∙ ap (λ (x : EventReading). atoms x.events ++ atoms next.events) (sym none.1);
    conversation = same.conversation;
  }

  pub heard_together : IsHeardInOne c first one → (d : Conversation) → IsAlike one.conversation d → IsHeard d more next → IsTogether c (first ++ more) one next
  heard_together was d alike is =
      let then_heard = hears_so one.conversation d alike more next is in
      elim was [
        | inl none ↦ begins then_heard.0 then_heard.1 then_heard.2 none
        | inr heard ↦ behind heard then_heard.0 then_heard.1 then_heard.2
      ]
