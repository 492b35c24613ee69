-- However bytes are cut, they are read alike.
use Rattle.std.proofs.Common.{◌≡◌, ℕ, Bool, true, false, List, [], ◌∷◌, ◌++◌, drop, map, ap, sym, ◌∙◌, refl, subst, Result, Ok, Err, append_assoc}
use Rattle.std.proofs.Common.{Option, None, Some, append-nil}
use Rattle.std.specs.Prelude.{codes, if◌then◌else◌}
use Rattle.std.specs.Str.{bytes_eq}
use Rattle.std.proofs.lemmas.List.{drop-append-le, map-append}
use Rattle.std.specs.List.{concat}
use Rattle.radio_blocks.specs.Cutting.{blocks_of}
use Rattle.radio_events.specs.declared.event.Event.{Event}
use Rattle.radio_events.specs.declared.event.Event.TheVariants.{Push, SourceEnd}
use Rattle.radio_heads.specs.declared.outcome.Progress.{Progress}
use Rattle.radio_heads.specs.declared.outcome.Progress.TheVariants.{More, Whole}
use Rattle.radio_heads.specs.declared.outcome.HeadFault.{HeadFault}
use Rattle.radio_heads.specs.Head.{RequestParts, ShowsRequest}
use Rattle.radio_heads.specs.Reading.{IsReading}
use Rattle.radio_heads.specs.Laws.{ReadingsAgree, IsStableReading, HeadsLieWithin}
use Rattle.radio_session.specs.declared.session.Hears.{Hears}
use Rattle.radio_session.specs.declared.session.Hears.TheVariants.{Head, Body, Nothing}
use Rattle.radio_session.specs.declared.session.LastWord.{LastWord}
use Rattle.radio_session.specs.declared.session.framing.Framing.{Framing}
use Rattle.radio_session.specs.Framing.{is_source, framing_of, start_of}
use Rattle.radio_session.proofs.BodyLemmas.{closes_at, stays_closed}
use Rattle.radio_source.specs.Place.{Place, after, data_of}
use Rattle.radio_source.specs.Feeding.{unfed}
use Rattle.radio_session.specs.Conversation.{Conversation}
use Rattle.radio_session.specs.Pushes.{pushes}
use Rattle.radio_session.specs.Asking.{asks_to_feed}
use Rattle.radio_session.specs.Hearing.{EventReading, HearsAs, IsHeard, head_heard, request_heard, source_heard, get_heard, body_heard, body_delivered}
use Rattle.radio_session.specs.Hearing.{closes_with, greeted, refuses, nothing_held, going_on}
use Rattle.radio_policy.specs.declared.rule.Rule.TheVariants.{BadHead, BadMethod}
use Rattle.radio_session.proofs.HearingLemmas.{heard-alike, hearing_is_one}
use Rattle.radio_session.specs.Cuts.{Atom, datum, atoms, with_replies_given, AreHeardAlike, IsCutting, IsHeardIn, unheard, heard_then, event_atoms}
use Rattle.radio_session.specs.Cuts.{CutsDoNotMatter, PiecesAreHeardAsOne}

-- the atoms of two lists of events, joined
atoms-append : (xs ys : List Event) → atoms (xs ++ ys) ≡ atoms xs ++ atoms ys
atoms-append [] ys = refl
atoms-append (x ∷ xs) ys = ap (λ (zs : List Atom). event_atoms x ++ zs) (atoms-append xs ys) ∙ sym (append_assoc (event_atoms x) (atoms xs) (atoms ys))

-- the atoms of blocks are those of their data
atoms-blocks : (id : ℕ) (blocks : List (List ℕ)) → atoms (map (Push id) blocks) ≡ map (datum id) (concat blocks)
atoms-blocks id [] = refl
atoms-blocks id (block ∷ blocks) =
    ap (λ (zs : List Atom). map (datum id) block ++ zs) (atoms-blocks id blocks) ∙ sym (map-append (datum id) block (concat blocks))

-- the blocks of some data, joined, are the data
abbrev pub AreJoined : Type 0
AreJoined = (bytes : List ℕ) → concat (blocks_of bytes) ≡ bytes

-- the place after two pieces is that after their bytes in one
abbrev pub PlacesJoin : Type 0
PlacesJoin = (place : Place) (first second : List ℕ) → after place (first ++ second) ≡ after (after place first) second

abbrev pub DataJoin : Type 0
DataJoin = (place : Place) (first second : List ℕ) → data_of place (first ++ second) ≡ data_of place first ++ data_of (after place first) second

module _ (joined : AreJoined) where
  atoms-pushes : (id : ℕ) (bytes : List ℕ) → atoms (pushes id bytes) ≡ map (datum id) bytes
  atoms-pushes id bytes = atoms-blocks id (blocks_of bytes) ∙ ap (map (datum id)) (joined bytes)

  -- data in two pieces
  pushes-cut : (id : ℕ) (first second : List ℕ) → atoms (pushes id first ++ pushes id second) ≡ atoms (pushes id (first ++ second))
  pushes-cut id first second =
      atoms-append (pushes id first) (pushes id second)
      ∙ ap (λ (zs : List Atom). zs ++ atoms (pushes id second)) (atoms-pushes id first)
      ∙ ap (λ (zs : List Atom). map (datum id) first ++ zs) (atoms-pushes id second)
      ∙ sym (map-append (datum id) first second)
      ∙ sym (atoms-pushes id (first ++ second))

-- two pieces are read as the whole is
abbrev Alike : EventReading → EventReading → EventReading → Type 0
Alike one two whole = (atoms (one.events ++ two.events) ≡ atoms whole.events) × (with_replies_given two.conversation ≡ with_replies_given whole.conversation)

-- two pieces and the whole, each by its reading
by_parts : (X Y Z two whole : EventReading) → two ≡ Y → whole ≡ Z → atoms (X.events ++ Y.events) ≡ atoms Z.events
    → with_replies_given Y.conversation ≡ with_replies_given Z.conversation → Alike X two whole
by_parts X Y Z two whole e f g h = (
  ap (λ (y : EventReading). atoms (X.events ++ y.events)) e ∙ g ∙ sym (ap (λ (z : EventReading). atoms z.events) f),
  ap (λ (y : EventReading). with_replies_given y.conversation) e ∙ h ∙ sym (ap (λ (z : EventReading). with_replies_given z.conversation) f),
)

-- the same, if the first piece closes the conversation
by_closed : (X Z two whole : EventReading) → two ≡ record { events = []; conversation = X.conversation } → whole ≡ Z → atoms X.events ≡ atoms Z.events
    → with_replies_given X.conversation ≡ with_replies_given Z.conversation → Alike X two whole
by_closed X Z two whole e f g h =
    by_parts X (record { events = []; conversation = X.conversation }) Z two whole e f (ap atoms (append-nil X.events) ∙ g) h

module _ (joined : AreJoined) (places : PlacesJoin) (found : DataJoin) where
  -- the events of data in two pieces
  delivered-cut : (id : ℕ) (before : List Event) (place : Place) (first second : List ℕ)
      → atoms ((before ++ pushes id (data_of place first)) ++ pushes id (data_of (after place first) second)) ≡ atoms
      (before ++ pushes id (data_of place (first ++ second)))
  delivered-cut id before place first second =
      let one = data_of place first in
      let two = data_of (after place first) second in
      ap atoms (append_assoc before (pushes id one) (pushes id two))
      ∙ atoms-append before (pushes id one ++ pushes id two)
      ∙ ap (λ (zs : List Atom). atoms before ++ zs) (pushes-cut joined id one two
      ∙ ap (λ (bytes : List ℕ). atoms (pushes id bytes)) (sym (found place first second)))
      ∙ sym (atoms-append before (pushes id (data_of place (first ++ second))))

  -- the same with an event after them
  ended-cut : (id : ℕ) (before : List Event) (last : Event) (place : Place) (first second : List ℕ)
      → atoms ((before ++ pushes id (data_of place first)) ++ (pushes id (data_of (after place first) second) ++ last ∷ [])) ≡ atoms
      ((before ++ pushes id (data_of place (first ++ second))) ++ last ∷ [])
  ended-cut id before last place first second =
      let one = before ++ pushes id (data_of place first) in
      let two = pushes id (data_of (after place first) second) in
      let all = before ++ pushes id (data_of place (first ++ second)) in
      ap atoms (sym (append_assoc one two (last ∷ [])))
      ∙ atoms-append (one ++ two) (last ∷ [])
      ∙ ap (λ (zs : List Atom). zs ++ atoms (last ∷ [])) (delivered-cut id before place first second)
      ∙ sym (atoms-append all (last ∷ []))

  module _ (conversation : Conversation) (before : List Event) (place : Place) (first second : List ℕ) where
    -- the second piece, by how it closes
    second-cut : (word : Option LastWord) → Alike (body_delivered conversation (before ++ pushes conversation.id (data_of place first)) (after place first) None)
        (body_delivered (going_on conversation (Body (unfed (after place first)))) (pushes conversation.id (data_of (after place first) second))
        (after (after place first) second) word)
        (body_delivered conversation (before ++ pushes conversation.id (data_of place (first ++ second))) (after (after place first) second) word)
    second-cut None = (delivered-cut conversation.id before place first second, refl)
    second-cut (Some word) = (ended-cut conversation.id before (SourceEnd conversation.id) place first second, refl)

    -- the first piece, by how it closes
    body-cut : (two whole : EventReading) (word : Option LastWord) → closes_at (after place first) ≡ word
        → IsHeard (body_delivered conversation (before ++ pushes conversation.id (data_of place first)) (after place first) word).conversation second two
        → whole ≡ body_heard conversation before place (first ++ second)
        → Alike (body_delivered conversation (before ++ pushes conversation.id (data_of place first)) (after place first) word) two whole
    body-cut two whole None e h w =
        let id = conversation.id in
        let all = before ++ pushes id (data_of place (first ++ second)) in
        let one = body_delivered conversation (before ++ pushes id (data_of place first)) (after place first) None in
        let last = after (after place first) second in
        let Z = body_delivered conversation all last (closes_at last) in
        let same : whole ≡ Z = w ∙ ap (λ (p : Place). body_delivered conversation all p (closes_at p)) (places place first second) in
        let cut = second-cut (closes_at last) in
        by_parts one (body_delivered (going_on conversation (Body (unfed (after place first)))) (pushes id (data_of (after place first) second)) last
        (closes_at last)) Z two whole h same cut.0 cut.1
    body-cut two whole (Some word) e h w =
        let id = conversation.id in
        let one = before ++ pushes id (data_of place first) in
        let all = before ++ pushes id (data_of place (first ++ second)) in
        let stays = stays_closed (after place first) second word e in
        let same : all ≡ one =
        ap (λ (bytes : List ℕ). before ++ pushes id bytes) (found place first second
        ∙ ap (λ (more : List ℕ). data_of place first ++ more) stays.dataless ∙ append-nil (data_of place first)) in
        let closed : closes_at (after place (first ++ second)) ≡ Some word = ap closes_at (places place first second) ∙ stays.closed in
        let Z = closes_with conversation one (SourceEnd id) word in
        let alike : whole ≡ Z =
        w
        ∙ ap (λ (c : Option LastWord). body_delivered conversation all (after place (first ++ second)) c) closed
        ∙ ap (λ (events : List Event). closes_with conversation events (SourceEnd id) word) same in
        by_closed Z Z two whole h alike refl refl

-- the reading of a request, by the tests of its method
unfoldable pub request_by : Bool → Bool → Conversation → RequestParts → List ℕ → EventReading
request_by source get conversation request behind =
    if source then source_heard conversation request behind (framing_of request)
    else if get then get_heard conversation request
    else refuses conversation BadMethod

-- the bytes that were held before a head do not matter for its reading
pub held-alike : (conversation : Conversation) (held bytes : List ℕ) (r : Result (Progress RequestParts) HeadFault)
    → head_heard (record conversation { held = held }) bytes r ≡ head_heard conversation bytes r
held-alike conversation held bytes (Ok More) = refl
held-alike conversation held bytes (Ok (Whole request n)) = refl
held-alike conversation held bytes (Err e) = refl

-- a source's request, and more bytes after it
source-cut : (joined : AreJoined) (places : PlacesJoin) (found : DataJoin) (framing : Option Framing) (conversation : Conversation)
    (request : RequestParts) (behind second : List ℕ) (two whole : EventReading)
    → IsHeard (source_heard conversation request behind framing).conversation second two
    → whole ≡ source_heard conversation request (behind ++ second) framing → Alike (source_heard conversation request behind framing) two whole
source-cut joined places found None conversation request behind second two whole h w =
    by_closed (refuses conversation BadHead) (refuses conversation BadHead) two whole h w refl refl
source-cut joined places found (Some framing) conversation request behind second two whole h w =
    body-cut joined places found (greeted conversation request) (asks_to_feed conversation.id request ∷ []) (start_of framing) behind second two whole
    (closes_at (after (start_of framing) behind)) refl h w

-- a request, and more bytes after it
request-cut : (joined : AreJoined) (places : PlacesJoin) (found : DataJoin) (source get : Bool) (conversation : Conversation) (request : RequestParts)
    (behind second : List ℕ) (two whole : EventReading) → IsHeard (request_by source get conversation request behind).conversation second two
    → whole ≡ request_by source get conversation request (behind ++ second) → Alike (request_by source get conversation request behind) two whole
unfolding request_by
request-cut joined places found true get conversation request behind second two whole h w =
    source-cut joined places found (framing_of request) conversation request behind second two whole h w
request-cut joined places found false true conversation request behind second two whole h w =
    by_closed (get_heard conversation request) (get_heard conversation request) two whole h w refl refl
request-cut joined places found false false conversation request behind second two whole h w =
    by_closed (refuses conversation BadMethod) (refuses conversation BadMethod) two whole h w refl refl

module _ (joined : AreJoined) (places : PlacesJoin) (found : DataJoin) (agree : ReadingsAgree ShowsRequest) (settled : IsStableReading ShowsRequest)
    (fits : HeadsLieWithin ShowsRequest) where
  -- a head in two pieces, by what the first piece is read as
  head-cut : (conversation : Conversation) (first second : List ℕ) (two whole : EventReading) (r s : Result (Progress RequestParts) HeadFault)
      → conversation.hears ≡ Head → IsReading ShowsRequest (conversation.held ++ first) r
      → IsHeard (head_heard conversation (conversation.held ++ first) r).conversation second two
      → IsReading ShowsRequest (conversation.held ++ (first ++ second)) s → whole ≡ head_heard conversation (conversation.held ++ (first ++ second)) s
      → Alike (head_heard conversation (conversation.held ++ first) r) two whole
  unfolding request_by
  head-cut conversation first second two whole (Ok More) s hears read h again w =
      let held = conversation.held ++ first in
      let waiting : Conversation = record conversation { held = held } in
      let as_head : HearsAs Head waiting second two = subst (λ (x : Hears). HearsAs x waiting second two) hears h in
      let same : held ++ second ≡ conversation.held ++ (first ++ second) = append_assoc conversation.held first second in
      let reading : IsReading ShowsRequest (conversation.held ++ (first ++ second)) as_head.0 =
      subst (λ (xs : List ℕ). IsReading ShowsRequest xs as_head.0) same as_head.1 in
      let alike : two ≡ whole =
      as_head.2
      ∙ held-alike conversation held (held ++ second) as_head.0
      ∙ ap (λ (xs : List ℕ). head_heard conversation xs as_head.0) same
      ∙ heard-alike agree conversation (conversation.held ++ (first ++ second)) as_head.0 s reading again
      ∙ sym w in
      (ap (λ (y : EventReading). atoms y.events) alike, ap (λ (y : EventReading). with_replies_given y.conversation) alike)
  head-cut conversation first second two whole (Ok (Whole request n)) s hears read h again w =
      let bytes = conversation.held ++ first in
      let same : bytes ++ second ≡ conversation.held ++ (first ++ second) = append_assoc conversation.held first second in
      let longer : IsReading ShowsRequest (bytes ++ second) (Ok (Whole request n)) = settled bytes second (Ok (Whole request n)) read (λ e. cc) in
      let reading : IsReading ShowsRequest (conversation.held ++ (first ++ second)) (Ok (Whole request n)) =
      subst (λ (xs : List ℕ). IsReading ShowsRequest xs (Ok (Whole request n))) same longer in
      let behind : drop n (conversation.held ++ (first ++ second)) ≡ drop n bytes ++ second = ap (drop n) (sym same)
      ∙ drop-append-le n bytes second (fits bytes request n read) in
      let alike : whole ≡ request_heard (nothing_held conversation) request (drop n bytes ++ second) =
      w ∙ heard-alike agree conversation (conversation.held ++ (first ++ second)) s (Ok (Whole request n)) again reading
      ∙ ap (request_heard (nothing_held conversation) request) behind in
      request-cut joined places found (is_source request) (bytes_eq request.method (codes "GET")) (nothing_held conversation) request
      (drop n bytes) second two whole h alike
  head-cut conversation first second two whole (Err e) s hears read h again w =
      let bytes = conversation.held ++ first in
      let same : bytes ++ second ≡ conversation.held ++ (first ++ second) = append_assoc conversation.held first second in
      let longer : IsReading ShowsRequest (bytes ++ second) (Err e) = settled bytes second (Err e) read (λ x. cc) in
      let reading : IsReading ShowsRequest (conversation.held ++ (first ++ second)) (Err e) =
      subst (λ (xs : List ℕ). IsReading ShowsRequest xs (Err e)) same longer in
      let alike : whole ≡ refuses conversation BadHead = w ∙ heard-alike agree conversation (conversation.held ++ (first ++ second)) s (Err e) again reading in
      by_closed (refuses conversation BadHead) (refuses conversation BadHead) two whole h alike refl refl

  -- any two pieces, by how the conversation reads the first
  cuts : (hears : Hears) (conversation : Conversation) (first second : List ℕ) (one two whole : EventReading) → conversation.hears ≡ hears
      → HearsAs hears conversation first one → IsHeard one.conversation second two → HearsAs hears conversation (first ++ second) whole → Alike one two whole
  cuts Nothing conversation first second one two whole hears h k w =
      let X : EventReading = record { events = []; conversation = conversation } in
      let later : two ≡ X = subst (λ (x : Hears). HearsAs x conversation second two) hears (subst (λ (x : EventReading). IsHeard x.conversation second two) h k) in
      subst (λ (x : EventReading). Alike x two whole) (sym h) (by_closed X X two whole later w refl refl)
  cuts (Body body) conversation first second one two whole hears h k w =
      let X = body_heard (nothing_held conversation) [] body.place first in
      let later : IsHeard X.conversation second two = subst (λ (x : EventReading). IsHeard x.conversation second two) h k in
      subst (λ (x : EventReading). Alike x two whole) (sym h)
      (body-cut joined places found (nothing_held conversation) [] body.place first second two whole (closes_at (after body.place first)) refl later w)
  cuts Head conversation first second one two whole hears h k w =
      let X = head_heard conversation (conversation.held ++ first) h.0 in
      let later : IsHeard X.conversation second two = subst (λ (x : EventReading). IsHeard x.conversation second two) h.2 k in
      subst (λ (x : EventReading). Alike x two whole) (sym h.2) (head-cut conversation first second two whole h.0 w.0 hears h.1 later w.1 w.2)

  -- a reading in one piece that is alike to the reading in two
  record Joined (conversation : Conversation) (first second : List ℕ) (one two : EventReading) : Type 0 where
    pub whole : EventReading
    pub is_heard : IsHeard conversation (first ++ second) whole
    pub alike : Alike one two whole

  -- a head of two pieces, by what the first piece is read as
  head-joined : (conversation : Conversation) (first second : List ℕ) (two : EventReading) (r : Result (Progress RequestParts) HeadFault) → conversation.hears ≡ Head
      → IsReading ShowsRequest (conversation.held ++ first) r → IsHeard (head_heard conversation (conversation.held ++ first) r).conversation second two
      → (whole : EventReading) × HearsAs Head conversation (first ++ second) whole
  head-joined conversation first second two (Ok More) hears read h =
      let held = conversation.held ++ first in
      let waiting : Conversation = record conversation { held = held } in
      let as_head : HearsAs Head waiting second two = subst (λ (x : Hears). HearsAs x waiting second two) hears h in
      let same : held ++ second ≡ conversation.held ++ (first ++ second) = append_assoc conversation.held first second in
      let reading : IsReading ShowsRequest (conversation.held ++ (first ++ second)) as_head.0 =
      subst (λ (xs : List ℕ). IsReading ShowsRequest xs as_head.0) same as_head.1 in
      (head_heard conversation (conversation.held ++ (first ++ second)) as_head.0, (as_head.0, reading, refl))
  head-joined conversation first second two (Ok (Whole request n)) hears read h =
      let longer : IsReading ShowsRequest ((conversation.held ++ first) ++ second) (Ok (Whole request n)) =
      settled (conversation.held ++ first) second (Ok (Whole request n)) read (λ e. cc) in
      let reading : IsReading ShowsRequest (conversation.held ++ (first ++ second)) (Ok (Whole request n)) =
      subst (λ (xs : List ℕ). IsReading ShowsRequest xs (Ok (Whole request n))) (append_assoc conversation.held first second) longer in
      (head_heard conversation (conversation.held ++ (first ++ second)) (Ok (Whole request n)), (Ok (Whole request n), reading, refl))
  head-joined conversation first second two (Err e) hears read h =
      let longer : IsReading ShowsRequest ((conversation.held ++ first) ++ second) (Err e) =
      settled (conversation.held ++ first) second (Err e) read (λ x. cc) in
      let reading : IsReading ShowsRequest (conversation.held ++ (first ++ second)) (Err e) =
      subst (λ (xs : List ℕ). IsReading ShowsRequest xs (Err e)) (append_assoc conversation.held first second) longer in
      (head_heard conversation (conversation.held ++ (first ++ second)) (Err e), (Err e, reading, refl))

  any-joined : (hears : Hears) (conversation : Conversation) (first second : List ℕ) (one two : EventReading) → conversation.hears ≡ hears
      → HearsAs hears conversation first one → IsHeard one.conversation second two → (whole : EventReading) × HearsAs hears conversation (first ++ second) whole
  any-joined Nothing conversation first second one two hears h k = (unheard conversation, refl)
  any-joined (Body body) conversation first second one two hears h k = (body_heard (nothing_held conversation) [] body.place (first ++ second), refl)
  any-joined Head conversation first second one two hears h k =
      head-joined conversation first second two h.0 hears h.1 (subst (λ (x : EventReading). IsHeard x.conversation second two) h.2 k)

  joined_alike : (conversation : Conversation) (first second : List ℕ) (one two : EventReading) → IsHeard conversation first one
      → IsHeard one.conversation second two → Joined conversation first second one two
  joined_alike conversation first second one two h k =
      let w = any-joined conversation.hears conversation first second one two refl h k in
      record { whole = w.0; is_heard = w.1; alike = cuts conversation.hears conversation first second one two w.0 refl h k w.1 }

  -- a reading in pieces is alike to the reading in one
  record AsOne (conversation : Conversation) (bytes : List ℕ) (cut : EventReading) : Type 0 where
    pub whole : EventReading
    pub is_heard : IsHeard conversation bytes whole
    pub alike : AreHeardAlike cut whole

  in_pieces : (conversation : Conversation) (first : List ℕ) (pieces : List (List ℕ)) (cut : EventReading) → IsHeardIn conversation (first ∷ pieces) cut
      → AsOne conversation (concat (first ∷ pieces)) cut
  in_pieces conversation first [] cut (one, h, others, none, e) =
      let same : cut ≡ one = e ∙ ap (heard_then one) none ∙ ap (λ (events : List Event). record one { events = events }) (append-nil one.events) in
      record {
        whole = one;
        is_heard = subst (λ (xs : List ℕ). IsHeard conversation xs one) (sym (append-nil first)) h;
        alike = record { events = ap (λ (x : EventReading). atoms x.events) same; conversation = ap (λ (x : EventReading). with_replies_given x.conversation) same };
      }
  in_pieces conversation first (piece ∷ pieces) cut (one, h, others, later, e) =
      let rest = in_pieces one.conversation piece pieces others later in
      let all = joined_alike conversation first (concat (piece ∷ pieces)) one rest.whole h rest.is_heard in
      record {
        whole = all.whole;
        is_heard = all.is_heard;
        alike = record {
          events =
              ap (λ (x : EventReading). atoms x.events) e ∙ atoms-append one.events others.events ∙ ap (λ (zs : List Atom). atoms one.events ++ zs) rest.alike.events
              ∙ sym (atoms-append one.events rest.whole.events)
              ∙ all.alike.0;
          conversation = ap (λ (x : EventReading). with_replies_given x.conversation) e ∙ rest.alike.conversation ∙ all.alike.1;
        };
      }

  any_pieces : (conversation : Conversation) (bytes : List ℕ) (pieces : List (List ℕ)) (cut : EventReading) → IsCutting bytes pieces
      → IsHeardIn conversation pieces cut → AsOne conversation bytes cut
  any_pieces conversation bytes [] cut cutting h = absurd (cutting.some refl)
  any_pieces conversation bytes (first ∷ pieces) cut cutting h =
      subst (λ (xs : List ℕ). AsOne conversation xs cut) cutting.joined (in_pieces conversation first pieces cut h)

  pub pieces_are_heard_as_one : PiecesAreHeardAsOne
  pieces_are_heard_as_one conversation bytes pieces cut whole cutting h w =
      let one = any_pieces conversation bytes pieces cut cutting h in
      subst (AreHeardAlike cut) (hearing_is_one agree conversation bytes one.whole whole one.is_heard w) one.alike

  pub cuts_do_not_matter : CutsDoNotMatter
  cuts_do_not_matter conversation bytes pieces others one other cutting again h k =
      let whole = any_pieces conversation bytes others other again k in
      let alike = pieces_are_heard_as_one conversation bytes pieces one whole.whole cutting h whole.is_heard in
      record { events = alike.events ∙ sym whole.alike.events; conversation = alike.conversation ∙ sym whole.alike.conversation }
