-- However bytes are cut, the same is written for them.
use Rattle.std.proofs.Common.{◌≡◌, ℕ, Bool, true, false, List, [], ◌∷◌, ◌++◌, drop, ap, sym, ◌∙◌, refl, subst, inl, inr, IsErr, Result, Ok, Err}
use Rattle.std.proofs.Common.{append-nil, Option, None, Some}
use Rattle.std.specs.Prelude.{codes}
use Rattle.std.specs.Str.{bytes_eq}
use Rattle.radio_heads.specs.declared.outcome.Progress.{Progress}
use Rattle.radio_heads.specs.declared.outcome.Progress.TheVariants.{More, Whole}
use Rattle.radio_heads.specs.declared.outcome.HeadFault.{HeadFault}
use Rattle.radio_heads.specs.Head.{RequestParts, ShowsRequest}
use Rattle.radio_heads.specs.Laws.{ReadingsAgree, IsStableReading, HeadsLieWithin}
use Rattle.radio_policy.specs.declared.rule.Rule.TheVariants.{BadHead, BadMethod}
use Rattle.radio_session.specs.declared.session.Hears.{Hears}
use Rattle.radio_session.specs.declared.session.Hears.TheVariants.{Head, Body, Nothing}
use Rattle.radio_session.specs.declared.session.Says.{Says}
use Rattle.radio_session.specs.declared.session.framing.Framing.{Framing}
use Rattle.radio_events.specs.declared.state.State.{State}
use Rattle.radio_events.specs.declared.state.State.TheVariants.{Running, Shut}
use Rattle.radio_session.specs.Framing.{is_source, framing_of, start_of}
use Rattle.radio_source.specs.Place.{after, data_of}
use Rattle.radio_session.specs.Asking.{asks_to_feed}
use Rattle.radio_session.specs.Conversation.{Conversation}
use Rattle.radio_session.specs.Hearing.{EventReading, get_heard, greeted, refuses, nothing_held}
use Rattle.radio_events.specs.Servers.{Steps}
use Rattle.radio_session.specs.Exchanges.{Exchange, nothing_exchanged}
use Rattle.radio_session.specs.DataServers.{GoesByData}
use Rattle.radio_session.specs.CutTelling.{IsTold, ThenTold, IsToldIn, AreToldAlike, CutsAreToldAlike, PiecesAreToldAsOne}
use Rattle.radio_session.proofs.BodyLemmas.{closes_at}
use Rattle.radio_session.proofs.CutLemmas.{AreJoined, PlacesJoin, DataJoin}
use Rattle.radio_session.proofs.ExchangeParts.{exchanged_as_one}
use Rattle.radio_session.proofs.BlockTellingLemmas.{blocks_alike}
use Rattle.radio_session.proofs.PieceTellingLemmas.{AreValid, AsHeard, AsSource, AsRequest, AsHead, As, cutting_in}

module _ {S : Type 0} (steps : Steps S) (joined : AreJoined) (valid : AreValid) (places : PlacesJoin) (found : DataJoin)
    (settled : IsStableReading ShowsRequest) (fits : HeadsLieWithin ShowsRequest) (agree : ReadingsAgree ShowsRequest) where
  module _ (id : ℕ) (server : GoesByData steps id) (from to end : S) (x y : Exchange) where
    same_alike : x ≡ y → AreToldAlike x y
    same_alike same = record { bytes = ap (λ (z : Exchange). z.bytes) same; state = ap (λ (z : Exchange). z.state) same }

    heard_alike : (heard : EventReading) → AsHeard steps id heard from x to → AsHeard steps id heard from y end → AreToldAlike x y
    heard_alike heard e f = same_alike (exchanged_as_one steps id server.is_one heard.events heard.conversation.says from x y to end e f).0

  module _ (conversation : Conversation) (server : GoesByData steps conversation.id) (from to end : S) (x y : Exchange) where
    source_alike : (framing : Option Framing) (request : RequestParts) (behind : List ℕ)
        → AsSource steps framing (nothing_held conversation) request behind from x to
        → AsSource steps framing (nothing_held conversation) request behind from y end → AreToldAlike x y
    source_alike None request behind e f = heard_alike conversation.id server from to end x y (refuses conversation BadHead) e f
    source_alike (Some framing) request behind e f =
        blocks_alike steps conversation.id server (greeted conversation request).says (asks_to_feed conversation.id request ∷ [])
        (data_of (start_of framing) behind) (closes_at (after (start_of framing) behind)) from to end x y e f

    request_alike : (source get : Bool) (request : RequestParts) (behind : List ℕ)
        → AsRequest steps source get (nothing_held conversation) request behind from x to
        → AsRequest steps source get (nothing_held conversation) request behind from y end → AreToldAlike x y
    request_alike true get request behind e f = source_alike (framing_of request) request behind e f
    request_alike false true request behind e f = heard_alike conversation.id server from to end x y
        (get_heard (nothing_held conversation) request) e f
    request_alike false false request behind e f = heard_alike conversation.id server from to end x y (refuses conversation BadMethod) e f

    head_alike : (bytes : List ℕ) (r : Result (Progress RequestParts) HeadFault) → AsHead steps conversation bytes r from x to
        → AsHead steps conversation bytes r from y end → AreToldAlike x y
    head_alike bytes (Ok More) e f = same_alike conversation.id server from to end x y (e.0 ∙ sym f.0)
    head_alike bytes (Ok (Whole request n)) e f = request_alike (is_source request) (bytes_eq request.method (codes "GET")) request (drop n bytes) e f
    head_alike bytes (Err fault) e f = heard_alike conversation.id server from to end x y (refuses conversation BadHead) e f

    faults_alike : (bytes : List ℕ) (r s : Result (Progress RequestParts) HeadFault) → IsErr r → IsErr s → AsHead steps conversation bytes r from x to
        → AsHead steps conversation bytes s from y end → AreToldAlike x y
    faults_alike bytes (Err one) (Err other) h k e f = heard_alike conversation.id server from to end x y (refuses conversation BadHead) e f
    faults_alike bytes (Err one) (Ok p) h k e f = cc
    faults_alike bytes (Ok p) s h k e f = cc

    alike : (hears : Hears) (bytes : List ℕ) → As steps hears conversation bytes from x to → As steps hears conversation bytes from y end → AreToldAlike x y
    alike Nothing bytes e f = same_alike conversation.id server from to end x y (e.0 ∙ sym f.0)
    alike (Body body) bytes e f =
        blocks_alike steps conversation.id server conversation.says [] (data_of body.place bytes) (closes_at (after body.place bytes)) from to end x y e f
    alike Head bytes e f = elim (agree (conversation.held ++ bytes) e.0 f.0 e.1 f.1) [
      | inl same ↦ head_alike (conversation.held ++ bytes) f.0 (subst
          (λ (r : Result (Progress RequestParts) HeadFault). AsHead steps conversation (conversation.held ++ bytes) r from x to) same e.2) f.2
      | inr faults ↦ faults_alike (conversation.held ++ bytes) e.0 f.0 faults.0 faults.1 e.2 f.2
    ]

  pub cuts_are_told_alike : CutsAreToldAlike steps
  cuts_are_told_alike conversation bytes pieces others from to end x y server is_free cutting again e f =
      alike conversation server from to end x y conversation.hears bytes
      (cutting_in steps joined valid places found settled fits conversation bytes pieces from to x is_free cutting e)
      (cutting_in steps joined valid places found settled fits conversation bytes others from end y is_free again f)

  -- one piece is a cutting, with the same exchange
  in_one : (conversation after : Conversation) (bytes : List ℕ) (from to : S) (x : Exchange) (state : State) → x.state ≡ state
      → IsTold steps conversation bytes from x after to
      → ThenTold state x to (λ others. IsToldIn steps after [] to others to) x to
  in_one conversation after bytes from to x Running runs of_piece = (
    nothing_exchanged x.says,
    (ap (λ (s : Says). nothing_exchanged s) (sym (ap (λ (c : Conversation). c.says) of_piece.goes_on)), refl),
    ap (λ (state : State). record x { state = state }) runs ∙ ap (λ (bytes : List ℕ). record (nothing_exchanged x.says) { bytes = bytes })
        (sym (append-nil x.bytes)),
  )
  in_one conversation after bytes from to x (Shut ending) shut of_piece = (refl, refl)

  pub pieces_are_told_as_one : PiecesAreToldAsOne steps
  pieces_are_told_as_one conversation after bytes pieces from to end cut whole server is_free cutting e of_piece =
      cuts_are_told_alike conversation bytes pieces (bytes ∷ []) from to end cut whole server is_free cutting
      (record { some = λ none. cc; joined = append-nil bytes }) e
      (whole, after, end, of_piece, in_one conversation after bytes from end whole whole.state refl of_piece)
