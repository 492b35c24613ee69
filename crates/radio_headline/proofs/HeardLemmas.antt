-- How a head and a body are read, and more bytes after them.
use Rattle.std.proofs.Common.{◌≡◌, ◌⊎◌, inl, inr, ℕ, Bool, true, false, List, [], ◌∷◌, ◌++◌, drop, Option, None, Some, Result, Ok, Err, refl, sym, ap, subst, ◌∙◌, append_assoc}
use Rattle.radio_headline.proofs.Words.{map, codes, if◌then◌else◌, length, option_map, concat, bytes_eq, append-nil, drop-append-le, blocks_of, Rule, BadMethod, Entry, Event, Push, SourceEnd, Progress, More, Whole}
use Rattle.radio_headline.proofs.Words.{HeadFault, RequestParts, ShowsRequest, IsStableReading, HeadsLieWithin, IsReading, unfed, Place, after, data_of, Body, Nothing, Closing, WebAnswers, asks_to_feed, Conversation}
use Rattle.radio_headline.proofs.Words.{is_source, framing_of, start_of, EventReading, body_heard, get_heard, greeted, head_heard, nothing_held, refuses, source_heard, body_delivered, pushed}
use Rattle.radio_policy.specs.declared.rule.Rule.TheVariants.{BadHead}
use Rattle.radio_session.specs.declared.session.LastWord.{LastWord}
use Rattle.radio_session.specs.Pushes.{pushes}
use Rattle.radio_headline.proofs.AppliedLemmas.{EachAsked}
use Rattle.radio_headline.proofs.Connections.{events_of, IsBehindRequest, ByGet, Feeds}
use Rattle.radio_headline.proofs.ClientEvents.{asked_joined, feeds_with, get_with, pushed_joined}

module _ (settled : IsStableReading ShowsRequest) (within : HeadsLieWithin ShowsRequest) (joined : (bytes : List ℕ) → concat (blocks_of bytes) ≡ bytes)
    (places : (place : Place) (first second : List ℕ) → after place (first ++ second) ≡ after (after place first) second)
    (data_joined : (place : Place) (first second : List ℕ) → data_of place (first ++ second) ≡ data_of place first ++ data_of (after place first) second) where
  -- more bytes may come
  pub read_more : (bytes more : List ℕ) (request : RequestParts) (n : ℕ) → IsReading ShowsRequest bytes (Ok (Whole request n))
      → IsReading ShowsRequest (bytes ++ more) (Ok (Whole request n))
  read_more bytes more request n reading = settled bytes more (Ok (Whole request n)) reading (λ e. cc)

  pub more_for_get : (web : WebAnswers) (bytes more : List ℕ) (log : List Entry) (given : List ℕ) → ByGet web bytes log given → ByGet web (bytes ++ more) log given
  more_for_get web bytes more log given g =
      get_with web bytes (bytes ++ more) log log given given g (read_more bytes more g.request g.length g.reading) g.behind g.in_order g.no_more g.orderly g.is_told

  pub behind_head : (bytes more : List ℕ) (request : RequestParts) (n : ℕ) → IsReading ShowsRequest bytes (Ok (Whole request n))
      → drop n (bytes ++ more) ≡ drop n bytes ++ more
  behind_head bytes more request n reading = drop-append-le n bytes more (within bytes request n reading)

  pub more_data : (bytes more : List ℕ) (request : RequestParts) (n : ℕ) (place : Place) → IsReading ShowsRequest bytes (Ok (Whole request n))
      → data_of place (drop n (bytes ++ more)) ≡ data_of place (drop n bytes) ++ data_of (after place (drop n bytes)) more
  more_data bytes more request n place reading =
      ap (data_of place) (behind_head bytes more request n reading) ∙ data_joined place (drop n bytes) more

  abbrev pub more_for_source : (bytes more : List ℕ) (log : List Entry) → Feeds bytes log → Feeds (bytes ++ more) log
  more_for_source bytes more log f =
      let later = data_of (after f.start (drop f.length bytes)) more in
      feeds_with bytes (bytes ++ more) log log f (read_more bytes more f.request f.length f.reading) f.behind f.in_order f.no_more f.orderly (f.rest ++ later)
      (sym (append_assoc (pushed (events_of f.behind)) f.rest later) ∙ ap (λ (xs : List ℕ). xs ++ later) f.front
      ∙ sym (more_data bytes more f.request f.length f.start f.reading))

  -- how a body is read
  pub record Delivers (conversation : Conversation) (before : List Event) (place : Place) (bytes : List ℕ) (heard : EventReading) : Type 0 where
    pub asked : List Event
    pub events : heard.events ≡ before ++ asked
    pub each : EachAsked (IsBehindRequest conversation.id) asked
    pub content : pushed asked ≡ data_of place bytes
    pub his : heard.conversation.id ≡ conversation.id
    pub peer : heard.conversation.peer ≡ conversation.peer
    pub closing : Option Closing
    pub says : heard.conversation.says ≡ record conversation.says { closing = closing }
    pub hears : (heard.conversation.hears ≡ Body (unfed (after place bytes))) ⊎ (heard.conversation.hears ≡ Nothing)

  pub blocks_pushed : (id : ℕ) (blocks : List (List ℕ)) → pushed (map (Push id) blocks) ≡ concat blocks
  blocks_pushed id [] = refl
  blocks_pushed id (block ∷ blocks) = ap (λ (xs : List ℕ). block ++ xs) (blocks_pushed id blocks)

  pub blocks_asked : (id : ℕ) (blocks : List (List ℕ)) → EachAsked (IsBehindRequest id) (map (Push id) blocks)
  blocks_asked id [] = tt
  blocks_asked id (block ∷ blocks) = (refl, blocks_asked id blocks)

  pub pushes_all : (id : ℕ) (bytes : List ℕ) → pushed (pushes id bytes) ≡ bytes
  pushes_all id bytes = blocks_pushed id (blocks_of bytes) ∙ joined bytes

  pub delivers_by : (conversation : Conversation) (before : List Event) (place : Place) (bytes : List ℕ) (word : Option LastWord)
      → Delivers conversation before place bytes (body_delivered conversation (before ++ pushes conversation.id (data_of place bytes)) (after place bytes) word)
  delivers_by conversation before place bytes None = record {
    asked = pushes conversation.id (data_of place bytes);
    events = refl;
    each = blocks_asked conversation.id (blocks_of (data_of place bytes));
    content = pushes_all conversation.id (data_of place bytes);
    his = refl;
    peer = refl;
    closing = conversation.says.closing;
    says = refl;
    hears = inl refl;
  }
  delivers_by conversation before place bytes (Some word) =
      let id = conversation.id in
      let blocks = pushes id (data_of place bytes) in
      record {
        asked = blocks ++ SourceEnd id ∷ [];
        events = append_assoc before blocks (SourceEnd id ∷ []);
        each = asked_joined (IsBehindRequest id) blocks (SourceEnd id ∷ []) (blocks_asked id (blocks_of (data_of place bytes))) (refl, tt);
        content = pushed_joined blocks (SourceEnd id ∷ []) ∙ append-nil (pushed blocks) ∙ pushes_all id (data_of place bytes);
        his = refl;
        peer = refl;
        closing = Some (record { awaits = length (before ++ blocks); word = word });
        says = refl;
        hears = inr refl;
      }

  -- how a head is read
  pub data HeadHeard (conversation : Conversation) (bytes : List ℕ) : EventReading → Type 0 where
    Unfinished : HeadHeard conversation bytes (record { events = []; conversation = record conversation { held = bytes } })
    IsRefused : (rule : Rule) → HeadHeard conversation bytes (refuses (nothing_held conversation) rule)
    AGet : (request : RequestParts) (n : ℕ) → IsReading ShowsRequest bytes (Ok (Whole request n)) → is_source request ≡ false
        → bytes_eq request.method (codes "GET") ≡ true → HeadHeard conversation bytes (get_heard (nothing_held conversation) request)
    ASource : (request : RequestParts) (n : ℕ) (start : Place) → IsReading ShowsRequest bytes (Ok (Whole request n)) → is_source request ≡ true
        → option_map start_of (framing_of request) ≡ Some start
        → HeadHeard conversation bytes (body_heard (greeted (nothing_held conversation) request) (asks_to_feed conversation.id request ∷ []) start (drop n bytes))

  module _ (conversation : Conversation) (bytes : List ℕ) where
    pub of_framing : {F : Type 0} (start_at : F → Place) (hears : Option F → EventReading) (request : RequestParts) (n : ℕ)
        → IsReading ShowsRequest bytes (Ok (Whole request n)) → is_source request ≡ true → hears None ≡ refuses (nothing_held conversation) BadHead
        → ((f : F) → hears (Some f)
        ≡ body_heard (greeted (nothing_held conversation) request) (asks_to_feed conversation.id request ∷ []) (start_at f) (drop n bytes))
        → (framing : Option F) → option_map start_at framing ≡ option_map start_of (framing_of request) → HeadHeard conversation bytes (hears framing)
    of_framing start_at hears request n reading source none some None e =
        subst (λ (x : EventReading). HeadHeard conversation bytes x) (sym none) (IsRefused BadHead)
    of_framing start_at hears request n reading source none some (Some framing) e =
        subst (λ (x : EventReading). HeadHeard conversation bytes x) (sym (some framing)) (ASource request n (start_at framing) reading source (sym e))

    pub of_method : (request : RequestParts) (n : ℕ) → IsReading ShowsRequest bytes (Ok (Whole request n)) → (feeds : Bool) → is_source request ≡ feeds
        → (gets : Bool) → bytes_eq request.method (codes "GET") ≡ gets
        → HeadHeard conversation bytes
        (if feeds then source_heard (nothing_held conversation) request (drop n bytes) (framing_of request)
        else if gets then get_heard (nothing_held conversation) request else refuses (nothing_held conversation) BadMethod)
    of_method request n reading true e gets g =
        of_framing start_of (source_heard (nothing_held conversation) request (drop n bytes)) request n reading e refl (λ f. refl) (framing_of request) refl
    of_method request n reading false e true g = AGet request n reading e g
    of_method request n reading false e false g = IsRefused BadMethod

    pub of_reading : (reading : Result (Progress RequestParts) HeadFault) → IsReading ShowsRequest bytes reading
        → HeadHeard conversation bytes (head_heard conversation bytes reading)
    of_reading (Ok More) r = Unfinished
    of_reading (Ok (Whole request n)) r = of_method request n r (is_source request) refl (bytes_eq request.method (codes "GET")) refl
    of_reading (Err fault) r = IsRefused BadHead
