-- What bytes in pieces exchange is what they exchange in one piece, except for the cuts between blocks.
use Rattle.std.proofs.Common.{◌≡◌, ℕ, Bool, true, false, List, [], ◌∷◌, ◌++◌, drop, ap, sym, ◌∙◌, refl, subst, Result, Ok, Err, append_assoc}
use Rattle.std.proofs.Common.{append-nil, Option, None, Some}
use Rattle.std.specs.Prelude.{codes}
use Rattle.std.specs.Str.{bytes_eq}
use Rattle.std.proofs.lemmas.List.{drop-append-le}
use Rattle.std.specs.List.{concat, All}
use Rattle.radio_blocks.specs.Block.{IsBlock}
use Rattle.radio_blocks.specs.Cutting.{blocks_of}
use Rattle.radio_events.specs.declared.event.Event.{Event}
use Rattle.radio_events.specs.declared.event.Event.TheVariants.{SourceEnd}
use Rattle.radio_heads.specs.declared.outcome.Progress.{Progress}
use Rattle.radio_heads.specs.declared.outcome.Progress.TheVariants.{More, Whole}
use Rattle.radio_heads.specs.declared.outcome.HeadFault.{HeadFault}
use Rattle.radio_heads.specs.Head.{RequestParts, ShowsRequest}
use Rattle.radio_heads.specs.Reading.{IsReading}
use Rattle.radio_heads.specs.Laws.{IsStableReading, HeadsLieWithin}
use Rattle.radio_policy.specs.declared.rule.Rule.TheVariants.{BadHead, BadMethod}
use Rattle.radio_session.specs.declared.session.Hears.{Hears}
use Rattle.radio_session.specs.declared.session.Hears.TheVariants.{Head, Body, Nothing}
use Rattle.radio_session.specs.declared.session.LastWord.{LastWord}
use Rattle.radio_session.specs.declared.session.Says.{Says}
use Rattle.radio_session.specs.declared.session.framing.Framing.{Framing}
use Rattle.radio_events.specs.declared.state.State.{State}
use Rattle.radio_events.specs.declared.state.State.TheVariants.{Running, Shut}
use Rattle.radio_session.specs.Framing.{is_source, framing_of, start_of}
use Rattle.radio_source.specs.Place.{Place, after, data_of}
use Rattle.radio_source.specs.Feeding.{unfed}
use Rattle.radio_session.specs.Asking.{asks_to_feed}
use Rattle.radio_session.specs.Conversation.{Conversation, saying_now}
use Rattle.radio_session.specs.Pushes.{pushes}
use Rattle.radio_session.specs.Hearing.{EventReading, HearsAs, head_heard, source_heard, get_heard, body_heard, closes_with, greeted, body_delivered}
use Rattle.radio_session.specs.Hearing.{refuses, nothing_held, going_on}
use Rattle.radio_events.specs.Servers.{Steps}
use Rattle.radio_session.specs.Exchanges.{Exchange, nothing_exchanged, prefixed, Exchanges}
use Rattle.radio_session.specs.Cuts.{IsCutting, unheard}
use Rattle.radio_session.specs.CutTelling.{IsTold, ThenTold, IsToldIn}
use Rattle.radio_session.proofs.BodyLemmas.{closes_at, stays_closed}
use Rattle.radio_session.proofs.CutLemmas.{AreJoined, PlacesJoin, DataJoin, request_by}
use Rattle.radio_session.proofs.AwaitLemmas.{free, free_says, stays_free}
use Rattle.radio_session.proofs.BlockTellingLemmas.{ended, InBlocks, no_rest, blocks_on, blocks_shut}

abbrev pub AreValid : Type 0
AreValid = (bytes : List ℕ) → All IsBlock (blocks_of bytes)

module _ {S : Type 0} (steps : Steps S) where
  -- a conversation that ignores its bytes exchanges nothing
  told_nothing : (pieces : List (List ℕ)) (conversation : Conversation) → conversation.hears ≡ Nothing → (from to : S) (x : Exchange)
      → IsToldIn steps conversation pieces from x to → (x ≡ nothing_exchanged conversation.says) × (to ≡ from)
  told_nothing [] conversation hears from to x t = t
  told_nothing (piece ∷ pieces) conversation hears from to x (one, between, mid, of_piece, later) =
      let heard : of_piece.heard ≡ unheard conversation = subst (λ (h : Hears). HearsAs h conversation piece of_piece.heard) hears of_piece.is_heard in
      let none = subst (λ (h : EventReading). Exchanges steps conversation.id h.conversation.says h.events from one mid) heard of_piece.is_exchanged in
      let same : between ≡ conversation =
      of_piece.goes_on ∙ ap (λ (h : EventReading). saying_now h.conversation one.says) heard ∙ ap (λ (z : Exchange). saying_now conversation z.says) none.0 in
      let g = subst (λ (state : State). ThenTold state one mid (λ others. IsToldIn steps between pieces mid others to) x to)
      (ap (λ (z : Exchange). z.state) none.0) later in
      let rest = told_nothing pieces conversation hears mid to g.0 (subst (λ (c : Conversation). IsToldIn steps c pieces mid g.0 to) same g.1) in
      (g.2 ∙ ap (λ (z : Exchange). prefixed z.bytes g.0) none.0 ∙ rest.0, rest.1 ∙ none.1)

  -- nor anything more after a piece that leaves it so
  told_no_more : (pieces : List (List ℕ)) (conversation : Conversation) → conversation.hears ≡ Nothing
      → (state : State) (mid to : S) (x cut : Exchange) → x.state ≡ state
      → ThenTold state x mid (λ others. IsToldIn steps (saying_now conversation x.says) pieces mid others to) cut to → (cut ≡ x) × (to ≡ mid)
  told_no_more pieces conversation hears Running mid to x cut runs g =
      let rest = told_nothing pieces (saying_now conversation x.says) hears mid to g.0 g.1 in
      let whole : prefixed x.bytes (nothing_exchanged x.says) ≡ x =
      ap (λ (bytes : List ℕ). record (nothing_exchanged x.says) { bytes = bytes }) (append-nil x.bytes)
      ∙ ap (λ (state : State). record x { state = state }) (sym runs) in
      (g.2 ∙ ap (prefixed x.bytes) rest.0 ∙ whole, rest.1)
  told_no_more pieces conversation hears (Shut ending) mid to x cut runs g = g

  -- the events of this reading are exchanged
  abbrev pub AsHeard : ℕ → EventReading → S → Exchange → S → Type 0
  AsHeard id heard from x to = Exchanges steps id heard.conversation.says heard.events from x to

  -- the exchange of a source's request: a refusal, or its data in blocks
  abbrev pub AsSource : Option Framing → Conversation → RequestParts → List ℕ → S → Exchange → S → Type 0
  AsSource None conversation request behind from x to = AsHeard conversation.id (refuses conversation BadHead) from x to
  AsSource (Some framing) conversation request behind from x to =
      InBlocks steps conversation.id (greeted conversation request).says (asks_to_feed conversation.id request ∷ [])
      (data_of (start_of framing) behind) (closes_at (after (start_of framing) behind)) from x to

  abbrev pub AsRequest : Bool → Bool → Conversation → RequestParts → List ℕ → S → Exchange → S → Type 0
  AsRequest true get conversation request behind from x to = AsSource (framing_of request) conversation request behind from x to
  AsRequest false true conversation request behind from x to = AsHeard conversation.id (get_heard conversation request) from x to
  AsRequest false false conversation request behind from x to = AsHeard conversation.id (refuses conversation BadMethod) from x to

  abbrev pub AsHead : Conversation → List ℕ → Result (Progress RequestParts) HeadFault → S → Exchange → S → Type 0
  AsHead conversation bytes (Ok More) from x to = (x ≡ nothing_exchanged conversation.says) × (to ≡ from)
  AsHead conversation bytes (Ok (Whole request n)) from x to =
      AsRequest (is_source request) (bytes_eq request.method (codes "GET")) (nothing_held conversation) request (drop n bytes) from x to
  AsHead conversation bytes (Err fault) from x to = AsHeard conversation.id (refuses conversation BadHead) from x to

  -- the exchange of these bytes, in whatever pieces they arrived
  abbrev pub As : Hears → Conversation → List ℕ → S → Exchange → S → Type 0
  As Head conversation bytes from x to =
      (r : Result (Progress RequestParts) HeadFault) × IsReading ShowsRequest (conversation.held ++ bytes) r
      × AsHead conversation (conversation.held ++ bytes) r from x to
  As (Body body) conversation bytes from x to = InBlocks steps conversation.id conversation.says [] (data_of body.place bytes)
      (closes_at (after body.place bytes)) from x to
  As Nothing conversation bytes from x to = (x ≡ nothing_exchanged conversation.says) × (to ≡ from)

  -- the bytes that were held before a head do not matter
  head_as : (conversation : Conversation) (held bytes : List ℕ) (r : Result (Progress RequestParts) HeadFault) (from to : S) (x : Exchange)
      → AsHead (record conversation { held = held }) bytes r from x to → AsHead conversation bytes r from x to
  head_as conversation held bytes (Ok More) from to x h = h
  head_as conversation held bytes (Ok (Whole request n)) from to x h = h
  head_as conversation held bytes (Err fault) from to x h = h

  module _ (joined : AreJoined) (valid : AreValid) (places : PlacesJoin) (found : DataJoin) where
    -- the rest of a body is exchanged in blocks
    abbrev RestIn : List (List ℕ) → Conversation → Place → S → Exchange → S → Type 0
    RestIn pieces conversation place from y to =
        InBlocks steps conversation.id conversation.says [] (data_of place (concat pieces)) (closes_at (after place (concat pieces))) from y to

    -- the first piece of a body and the others, by how the first closes the conversation
    body_first : (pieces : List (List ℕ)) (conversation : Conversation) (before : List Event) (place : Place) (first : List ℕ)
        (word : Option LastWord) (from mid to : S) (x cut : Exchange)
        → conversation.says.closing ≡ None → closes_at (after place first) ≡ word
        → (closes_at (after place first) ≡ None → x.says.closing ≡ None → (y : Exchange)
        → IsToldIn steps (going_on (saying_now conversation x.says) (Body (unfed (after place first)))) pieces mid y to
        → RestIn pieces (saying_now conversation x.says) (after place first) mid y to)
        → AsHeard conversation.id (body_delivered conversation (before ++ pushes conversation.id (data_of place first)) (after place first) word) from x mid
        → ThenTold x.state x mid (λ others. IsToldIn steps (saying_now
        (body_delivered conversation (before ++ pushes conversation.id (data_of place first))
        (after place first) word).conversation x.says) pieces mid others to) cut to
        → InBlocks steps conversation.id conversation.says before (data_of place (first ++ concat pieces))
        (closes_at (after place (first ++ concat pieces))) from cut to
    body_first pieces conversation before place first (Some word) from mid to x cut is_free closed further e later =
        let id = conversation.id in
        let rest = concat pieces in
        let stays = stays_closed (after place first) rest word closed in
        let same : data_of place first ≡ data_of place (first ++ rest) =
        sym (found place first rest ∙ ap (λ (more : List ℕ). data_of place first ++ more) stays.dataless ∙ append-nil (data_of place first)) in
        let close : Some word ≡ closes_at (after place (first ++ rest)) = sym (ap closes_at (places place first rest) ∙ stays.closed) in
        let heard = closes_with conversation (before ++ pushes id (data_of place first)) (SourceEnd id) word in
        let over = told_no_more pieces heard.conversation refl x.state mid to x cut refl later in
        let whole = ended steps id conversation.says (before ++ pushes id (data_of place first)) word from x mid e in
        let here : InBlocks steps id conversation.says before (data_of place first) (Some word) from x mid =
        record { blocks = blocks_of (data_of place first); valid = valid (data_of place first); joined = joined (data_of place first); closes = whole } in
        let there = subst (λ (bytes : List ℕ). InBlocks steps id conversation.says before bytes (Some word) from x mid) same here in
        let named = subst (λ (w : Option LastWord). InBlocks steps id conversation.says before (data_of place (first ++ rest)) w from x mid) close there in
        subst (λ (z : Exchange). InBlocks steps id conversation.says before (data_of place (first ++ rest))
        (closes_at (after place (first ++ rest))) from z to) (sym over.0)
        (subst (λ (s : S). InBlocks steps id conversation.says before (data_of place (first ++ rest))
        (closes_at (after place (first ++ rest))) from x s) (sym over.1) named)
    body_first pieces conversation before place first None from mid to x cut is_free closed further e later =
        subst (λ (bytes : List ℕ). InBlocks steps id conversation.says before bytes (closes_at (after place (first ++ concat pieces))) from cut to)
        (sym (found place first (concat pieces)))
        (subst (λ (p : Place). InBlocks steps id conversation.says before (data_of place first ++ data_of (after place first) (concat pieces))
        (closes_at p) from cut to) (sym (places place first (concat pieces)))
        (by_state x.state refl later)) where
          id : ℕ
          id = conversation.id

          more : List ℕ
          more = data_of (after place first) (concat pieces)

          word : Option LastWord
          word = closes_at (after (after place first) (concat pieces))

          alone : Exchanges steps id (free conversation.says) (before ++ pushes id (data_of place first)) from x mid
          alone = subst (λ (s : Says). Exchanges steps id s (before ++ pushes id (data_of place first)) from x mid)
              (sym (free_says conversation.says is_free)) e

          free_now : x.says.closing ≡ None
          free_now = stays_free steps id (before ++ pushes id (data_of place first)) conversation.says from x mid alone

          by_state : (state : State) → x.state ≡ state
              → ThenTold state x mid (λ others. IsToldIn steps (going_on (saying_now conversation x.says)
              (Body (unfed (after place first)))) pieces mid others to) cut to
              → InBlocks steps id conversation.says before (data_of place first ++ more) word from cut to
          by_state Running runs g =
              subst (λ (z : Exchange). InBlocks steps id conversation.says before (data_of place first ++ more) word from z to) (sym g.2)
              (blocks_on steps id word conversation.says before (data_of place first) more (blocks_of (data_of place first)) from mid to x g.0
              (valid (data_of place first)) (joined (data_of place first)) alone runs (further closed free_now g.0 g.1))
          by_state (Shut ending) shut g =
              let one = blocks_shut steps id word conversation.says before (data_of place first) more (blocks_of (data_of place first))
              (blocks_of more) from mid x ending
              (valid (data_of place first)) (joined (data_of place first)) (valid more) (joined more) alone shut in
              subst (λ (z : Exchange). InBlocks steps id conversation.says before (data_of place first ++ more) word from z to) (sym g.0)
              (subst (λ (s : S). InBlocks steps id conversation.says before (data_of place first ++ more) word from x s) (sym g.1) one)

    rest_in : (pieces : List (List ℕ)) (conversation : Conversation) (place : Place) (from to : S) (y : Exchange) → conversation.says.closing ≡ None
        → closes_at place ≡ None
        → IsToldIn steps (going_on conversation (Body (unfed place))) pieces from y to → RestIn pieces conversation place from y to
    rest_in [] conversation place from to y is_free still t =
        no_rest steps conversation.id conversation.says (closes_at place) from to y is_free still t
    rest_in (piece ∷ others) conversation place from to y is_free still (one, between, mid, of_piece, later) =
        let now = going_on conversation (Body (unfed place)) in
        let heard : of_piece.heard ≡ body_heard now [] place piece = of_piece.is_heard in
        body_first others now [] place piece (closes_at (after place piece)) from mid to one y is_free refl
        (λ goes free_now z t. rest_in others (saying_now conversation one.says) (after place piece) mid to z free_now goes t)
        (subst (λ (h : EventReading). AsHeard conversation.id h from one mid) heard of_piece.is_exchanged)
        (subst (λ (c : Conversation). ThenTold one.state one mid (λ z. IsToldIn steps c others mid z to) y to)
        (of_piece.goes_on ∙ ap (λ (h : EventReading). saying_now h.conversation one.says) heard) later)

    -- a body in pieces
    body_in : (pieces : List (List ℕ)) (conversation : Conversation) (before : List Event) (place : Place) (first : List ℕ) (from mid to : S) (x cut : Exchange)
        → conversation.says.closing ≡ None → AsHeard conversation.id (body_heard conversation before place first) from x mid
        → ThenTold x.state x mid (λ others. IsToldIn steps (saying_now
        (body_heard conversation before place first).conversation x.says) pieces mid others to) cut to
        → InBlocks steps conversation.id conversation.says before (data_of place (first ++ concat pieces))
        (closes_at (after place (first ++ concat pieces))) from cut to
    body_in pieces conversation before place first from mid to x cut is_free e later =
        body_first pieces conversation before place first (closes_at (after place first)) from mid to x cut is_free refl
        (λ still free_now y t. rest_in pieces (saying_now conversation x.says) (after place first) mid to y free_now still t) e later

    -- the exchange of a piece that was read, and of the pieces after it
    abbrev Goes : ℕ → EventReading → List (List ℕ) → S → Exchange → S → Exchange → S → Type 0
    Goes id heard pieces from x mid cut to = AsHeard id heard from x mid
        × ThenTold x.state x mid (λ others. IsToldIn steps (saying_now heard.conversation x.says) pieces mid others to) cut to

    -- after this reading the conversation ignores its bytes
    closed_in : (id : ℕ) (heard : EventReading) (pieces : List (List ℕ)) (from mid to : S) (x cut : Exchange) → heard.conversation.hears ≡ Nothing
        → Goes id heard pieces from x mid cut to → AsHeard id heard from cut to
    closed_in id heard pieces from mid to x cut hears (e, later) =
        let over = told_no_more pieces heard.conversation hears x.state mid to x cut refl later in
        subst (λ (z : Exchange). AsHeard id heard from z to) (sym over.0) (subst (λ (s : S). AsHeard id heard from x s) (sym over.1) e)

    source_in : (framing : Option Framing) (conversation : Conversation) (request : RequestParts) (behind : List ℕ) (pieces : List (List ℕ))
        (from mid to : S) (x cut : Exchange) → conversation.says.closing ≡ None
        → Goes conversation.id (source_heard conversation request behind framing) pieces from x mid cut to
        → AsSource framing conversation request (behind ++ concat pieces) from cut to
    source_in None conversation request behind pieces from mid to x cut is_free goes =
        closed_in conversation.id (refuses conversation BadHead) pieces from mid to x cut refl goes
    source_in (Some framing) conversation request behind pieces from mid to x cut is_free (e, later) =
        body_in pieces (greeted conversation request) (asks_to_feed conversation.id request ∷ []) (start_of framing) behind from mid to x cut is_free e later

    request_in : (source get : Bool) (conversation : Conversation) (request : RequestParts) (behind : List ℕ) (pieces : List (List ℕ))
        (from mid to : S) (x cut : Exchange) → conversation.says.closing ≡ None
        → Goes conversation.id (request_by source get conversation request behind) pieces from x mid cut to
        → AsRequest source get conversation request (behind ++ concat pieces) from cut to
    unfolding request_by
    request_in true get conversation request behind pieces from mid to x cut is_free goes =
        source_in (framing_of request) conversation request behind pieces from mid to x cut is_free goes
    request_in false true conversation request behind pieces from mid to x cut is_free goes =
        closed_in conversation.id (get_heard conversation request) pieces from mid to x cut refl goes
    request_in false false conversation request behind pieces from mid to x cut is_free goes =
        closed_in conversation.id (refuses conversation BadMethod) pieces from mid to x cut refl goes

    module _ (settled : IsStableReading ShowsRequest) (fits : HeadsLieWithin ShowsRequest) where
      -- the first piece of a head and the others, by what the first is read as
      head_first : (pieces : List (List ℕ)) (conversation : Conversation) (first : List ℕ) (r : Result (Progress RequestParts) HeadFault)
          (from mid to : S) (x cut : Exchange)
          → conversation.hears ≡ Head → conversation.says.closing ≡ None → IsReading ShowsRequest (conversation.held ++ first) r
          → (r ≡ Ok More → IsToldIn steps (record conversation { held = conversation.held ++ first }) pieces from cut to
          → As Head (record conversation { held = conversation.held ++ first }) (concat pieces) from cut to)
          → Goes conversation.id (head_heard conversation (conversation.held ++ first) r) pieces from x mid cut to
          → As Head conversation (first ++ concat pieces) from cut to
      unfolding request_by
      head_first pieces conversation first (Ok More) from mid to x cut hears is_free read further (e, later) =
          let held = conversation.held ++ first in
          let waiting : Conversation = record conversation { held = held } in
          let same : held ++ concat pieces ≡ conversation.held ++ (first ++ concat pieces) = append_assoc conversation.held first (concat pieces) in
          let g = subst (λ (z : Exchange). ThenTold z.state z mid (λ others. IsToldIn steps
          (saying_now waiting z.says) pieces mid others to) cut to) e.0 later in
          let waits = subst (λ (z : Exchange). IsToldIn steps waiting pieces mid z to) (sym g.2) g.1 in
          let rest = further refl (subst (λ (s : S). IsToldIn steps waiting pieces s cut to) e.1 waits) in (
            rest.0,
            subst (λ (xs : List ℕ). IsReading ShowsRequest xs rest.0) same rest.1,
            subst (λ (xs : List ℕ). AsHead conversation xs rest.0 from cut to) same
                (head_as conversation held (held ++ concat pieces) rest.0 from to cut rest.2),
          )
      head_first pieces conversation first (Ok (Whole request n)) from mid to x cut hears is_free read further goes =
          let bytes = conversation.held ++ first in
          let rest = concat pieces in
          let same : bytes ++ rest ≡ conversation.held ++ (first ++ rest) = append_assoc conversation.held first rest in
          let longer : IsReading ShowsRequest (bytes ++ rest) (Ok (Whole request n)) = settled bytes rest (Ok (Whole request n)) read (λ e. cc) in
          let behind : drop n bytes ++ rest ≡ drop n (conversation.held ++ (first ++ rest)) =
          sym (drop-append-le n bytes rest (fits bytes request n read)) ∙ ap (drop n) same in
          let source = is_source request in
          let get = bytes_eq request.method (codes "GET") in
          let asked = request_in source get (nothing_held conversation) request (drop n bytes) pieces from mid to x cut is_free goes in (
            Ok (Whole request n),
            subst (λ (xs : List ℕ). IsReading ShowsRequest xs (Ok (Whole request n))) same longer,
            subst (λ (xs : List ℕ). AsRequest source get (nothing_held conversation) request xs from cut to) behind asked,
          )
      head_first pieces conversation first (Err fault) from mid to x cut hears is_free read further goes =
          let bytes = conversation.held ++ first in
          let rest = concat pieces in
          let longer : IsReading ShowsRequest (bytes ++ rest) (Err fault) = settled bytes rest (Err fault) read (λ z. cc) in (
            Err fault,
            subst (λ (xs : List ℕ). IsReading ShowsRequest xs (Err fault)) (append_assoc conversation.held first rest) longer,
            closed_in conversation.id (refuses conversation BadHead) pieces from mid to x cut refl goes,
          )

      -- a piece of a head, in the form of the law
      as_goes : (conversation between : Conversation) (heard : EventReading) (piece : List ℕ) (pieces : List (List ℕ)) (from mid to : S) (x cut : Exchange)
          (of_piece : IsTold steps conversation piece from x between mid)
          → of_piece.heard ≡ heard → ThenTold x.state x mid (λ others. IsToldIn steps between pieces mid others to) cut to
          → Goes conversation.id heard pieces from x mid cut to
      as_goes conversation between heard piece pieces from mid to x cut of_piece same later = (
        subst (λ (h : EventReading). AsHeard conversation.id h from x mid) same of_piece.is_exchanged,
        subst (λ (c : Conversation). ThenTold x.state x mid (λ others. IsToldIn steps c pieces mid others to) cut to)
            (of_piece.goes_on ∙ ap (λ (h : EventReading). saying_now h.conversation x.says) same) later,
      )

      head_in : (pieces : List (List ℕ)) (conversation : Conversation) (first : List ℕ) (from to : S) (cut : Exchange) → conversation.hears ≡ Head
          → conversation.says.closing ≡ None
          → IsToldIn steps conversation (first ∷ pieces) from cut to → As Head conversation (concat (first ∷ pieces)) from cut to
      head_in [] conversation first from to cut hears is_free (x, between, mid, of_piece, later) =
          let h : HearsAs Head conversation first of_piece.heard = subst (λ (z : Hears). HearsAs z conversation first of_piece.heard) hears of_piece.is_heard in
          head_first [] conversation first h.0 from mid to x cut hears is_free h.1
          (λ more t. (
            Ok More,
            subst (λ (r : Result (Progress RequestParts) HeadFault). IsReading ShowsRequest ((conversation.held ++ first) ++ []) r) more
                (subst (λ (xs : List ℕ). IsReading ShowsRequest xs h.0) (sym (append-nil (conversation.held ++ first))) h.1),
            t,
          ))
          (as_goes conversation between (head_heard conversation (conversation.held ++ first) h.0) first [] from mid to x cut of_piece h.2 later)
      head_in (piece ∷ pieces) conversation first from to cut hears is_free (x, between, mid, of_piece, later) =
          let h : HearsAs Head conversation first of_piece.heard = subst (λ (z : Hears). HearsAs z conversation first of_piece.heard) hears of_piece.is_heard in
          head_first (piece ∷ pieces) conversation first h.0 from mid to x cut hears is_free h.1
          (λ more t. head_in pieces (record conversation { held = conversation.held ++ first }) piece from to cut hears is_free t)
          (as_goes conversation between (head_heard conversation (conversation.held ++ first) h.0) first (piece ∷ pieces) from mid to x cut of_piece h.2 later)

      -- any pieces, by how the conversation reads the first
      pieces_in : (hears : Hears) (conversation : Conversation) (first : List ℕ) (pieces : List (List ℕ)) (from to : S) (cut : Exchange)
          → conversation.hears ≡ hears → conversation.says.closing ≡ None
          → IsToldIn steps conversation (first ∷ pieces) from cut to → As hears conversation (concat (first ∷ pieces)) from cut to
      pieces_in Nothing conversation first pieces from to cut hears is_free t = told_nothing (first ∷ pieces) conversation hears from to cut t
      pieces_in Head conversation first pieces from to cut hears is_free t = head_in pieces conversation first from to cut hears is_free t
      pieces_in (Body body) conversation first pieces from to cut hears is_free (x, between, mid, of_piece, later) =
          let heard : of_piece.heard ≡ body_heard (nothing_held conversation) [] body.place first =
          subst (λ (z : Hears). HearsAs z conversation first of_piece.heard) hears of_piece.is_heard in
          let goes = as_goes conversation between
          (body_heard (nothing_held conversation) [] body.place first) first pieces from mid to x cut of_piece heard later in
          body_in pieces (nothing_held conversation) [] body.place first from mid to x cut is_free goes.0 goes.1

      pub cutting_in : (conversation : Conversation) (bytes : List ℕ) (pieces : List (List ℕ)) (from to : S) (cut : Exchange)
          → conversation.says.closing ≡ None → IsCutting bytes pieces
          → IsToldIn steps conversation pieces from cut to → As conversation.hears conversation bytes from cut to
      cutting_in conversation bytes [] from to cut is_free cutting t = absurd (cutting.some refl)
      cutting_in conversation bytes (first ∷ pieces) from to cut is_free cutting t =
          subst (λ (xs : List ℕ). As conversation.hears conversation xs from cut to) cutting.joined
          (pieces_in conversation.hears conversation first pieces from to cut refl is_free t)
