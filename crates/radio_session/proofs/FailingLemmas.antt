-- Reading bytes fails no session.
use Rattle.std.proofs.Common.{◌≡◌, ℕ, Bool, true, false, if◌then◌else◌, List, drop, Option, None, Some, Result, Ok, Err, refl, ap, ◌∙◌}
use Rattle.std.specs.Str.{bytes_eq}
use Rattle.std.specs.Prelude.{codes, ◌++◌, ◌∷◌, []}
use Rattle.radio_events.specs.declared.event.Event.{Event}
use Rattle.radio_policy.specs.declared.rule.Rule.TheVariants.{BadMethod}
use Rattle.radio_heads.specs.declared.outcome.Progress.{Progress}
use Rattle.radio_heads.specs.declared.outcome.Progress.TheVariants.{More, Whole}
use Rattle.radio_heads.specs.declared.outcome.HeadFault.{HeadFault}
use Rattle.radio_heads.specs.Head.{RequestParts}
use Rattle.radio_source.specs.Place.{Place, after, data_of, has_ended, fault_at}
use Rattle.radio_session.specs.Pushes.{pushes}
use Rattle.radio_session.specs.declared.session.Hears.{Hears}
use Rattle.radio_session.specs.declared.session.Hears.TheVariants.{Head, Body, Nothing}
use Rattle.radio_session.specs.declared.session.LastWord.{LastWord}
use Rattle.radio_session.specs.declared.session.framing.Framing.{Framing}
use Rattle.radio_session.specs.Framing.{is_source, framing_of, start_of}
use Rattle.radio_session.specs.Asking.{asks_to_feed}
use Rattle.radio_session.specs.Conversation.{Conversation}
use Rattle.radio_session.specs.Hearing.{EventReading, HearsAs, nothing_held, body_closes, body_heard, greeted, source_heard, get_heard, refuses, body_delivered}
use Rattle.radio_session.specs.Hearing.{head_heard}
use Rattle.radio_session.specs.Laws.{HearingFailsNothing}

delivering : (c : Conversation) (events : List Event) (place : Place) (word : Option LastWord) → (body_delivered c events place word).conversation.has_failed ≡ c.has_failed
delivering c events place None = refl
delivering c events place (Some word) = refl

in_body : (c : Conversation) (before : List Event) (place : Place) (bytes : List ℕ) → (body_heard c before place bytes).conversation.has_failed ≡ c.has_failed
in_body c before place bytes =
    delivering c (before ++ pushes c.id (data_of place bytes)) (after place bytes) (body_closes (has_ended (after place bytes)) (fault_at (after place bytes)))

of_source : (c : Conversation) (request : RequestParts) (behind : List ℕ) (framing : Option Framing)
    → (source_heard c request behind framing).conversation.has_failed ≡ c.has_failed
of_source c request behind None = refl
of_source c request behind (Some framing) = in_body (greeted c request) (asks_to_feed c.id request ∷ []) (start_of framing) behind

of_request : (c : Conversation) (request : RequestParts) (behind : List ℕ) (feeds gets : Bool)
    → (if feeds then source_heard c request behind (framing_of request) else if gets then get_heard c request else refuses c BadMethod).conversation.has_failed
    ≡ c.has_failed
of_request c request behind true gets = of_source c request behind (framing_of request)
of_request c request behind false true = refl
of_request c request behind false false = refl

of_head : (c : Conversation) (bytes : List ℕ) (reading : Result (Progress RequestParts) HeadFault) → (head_heard c bytes reading).conversation.has_failed ≡ c.has_failed
of_head c bytes (Ok More) = refl
of_head c bytes (Ok (Whole request n)) =
    of_request (nothing_held c) request (drop n bytes) (is_source request) (bytes_eq request.method (codes "GET"))
of_head c bytes (Err fault) = refl

by_hears : (hears : Hears) (c : Conversation) (bytes : List ℕ) (heard : EventReading) → HearsAs hears c bytes heard → heard.conversation.has_failed ≡ c.has_failed
by_hears Head c bytes heard is = ap (λ (h : EventReading). h.conversation.has_failed) is.2 ∙ of_head c (c.held ++ bytes) is.0
by_hears (Body body) c bytes heard is =
    ap (λ (h : EventReading). h.conversation.has_failed) is ∙ in_body (nothing_held c) [] body.place bytes
by_hears Nothing c bytes heard is = ap (λ (h : EventReading). h.conversation.has_failed) is

pub hearing_fails_nothing : HearingFailsNothing
hearing_fails_nothing c bytes heard is = by_hears c.hears c bytes heard is
