-- Conversations that read alike, whatever was written in them.
use Rattle.std.proofs.Common.{◌≡◌, ℕ, Bool, true, false, List, [], ◌∷◌, ◌++◌, Option, None, Some, Result, Ok, Err, drop, refl, sym, ap, subst, ◌∙◌}
use Rattle.radio_stations.proofs.Words.{codes, if◌then◌else◌, Event, Leave, SourceEnd, Progress, More, Whole, HeadFault, RequestParts, ShowsRequest, IsReading, WebAnswers, Hears, Head, Body, Nothing, Conversation}
use Rattle.radio_stations.proofs.Words.{EventReading, HearsAs, IsHeard, body_closes, body_heard, get_heard, greeted, head_heard, nothing_held, refuses, source_heard, body_delivered}
use Rattle.std.specs.Str.{bytes_eq}
use Rattle.radio_policy.specs.declared.rule.Rule.{Rule}
use Rattle.radio_policy.specs.declared.rule.Rule.TheVariants.{BadHead, BadMethod}
use Rattle.radio_source.specs.Place.{Place, after, data_of, has_ended, fault_at}
use Rattle.radio_session.specs.declared.session.LastWord.{LastWord}
use Rattle.radio_session.specs.Asking.{asks_to_feed, asks_by_get}
use Rattle.radio_session.specs.Framing.{is_source, framing_of, start_of}
use Rattle.radio_session.specs.Pushes.{pushes}

-- they have the same number, hold the same bytes, read on alike and have the same settings of answers
pub record IsAlike (c d : Conversation) : Type 0 where
  pub id : c.id ≡ d.id
  pub held : c.held ≡ d.held
  pub hears : c.hears ≡ d.hears
  pub web : c.says.web ≡ d.says.web

pub alike_self : (c : Conversation) → IsAlike c c
alike_self c = record { id = refl; held = refl; hears = refl; web = refl }

pub alike_then : (c d e : Conversation) → IsAlike c d → IsAlike d e → IsAlike c e
alike_then c d e a b = record { id = a.id ∙ b.id; held = a.held ∙ b.held; hears = a.hears ∙ b.hears; web = a.web ∙ b.web }

-- the same events were read, and the conversations go on alike
pub record AreSo (k h : EventReading) : Type 0 where
  pub events : k.events ≡ h.events
  pub conversation : IsAlike k.conversation h.conversation

refuses_so : (c d : Conversation) → IsAlike c d → (rule : Rule) → AreSo (refuses c rule) (refuses d rule)
refuses_so c d a rule = record {
  events = ap (λ (n : ℕ). Leave n ∷ []) a.id;
  conversation = record { id = a.id; held = refl; hears = refl; web = a.web };
}

delivered_so : (c d : Conversation) → IsAlike c d → (one other : List Event) → one ≡ other → (place : Place) (word : Option LastWord)
    → AreSo (body_delivered c one place word) (body_delivered d other place word)
delivered_so c d a one other same place None = record {
  events = same;
  conversation = record { id = a.id; held = refl; hears = refl; web = a.web };
}
delivered_so c d a one other same place (Some word) = record {
  events = ap (λ (n : ℕ). one ++ SourceEnd n ∷ []) a.id ∙ ap (λ (xs : List Event). xs ++ SourceEnd d.id ∷ []) same;
  conversation = record { id = a.id; held = refl; hears = refl; web = a.web };
}

body_so : (c d : Conversation) → IsAlike c d → (one other : List Event) → one ≡ other → (place : Place) (bytes : List ℕ)
    → AreSo (body_heard c one place bytes) (body_heard d other place bytes)
body_so c d a one other same place bytes =
    delivered_so c d a (one ++ pushes c.id (data_of place bytes)) (other ++ pushes d.id (data_of place bytes))
    (ap (λ (n : ℕ). one ++ pushes n (data_of place bytes)) a.id ∙ ap (λ (xs : List Event). xs ++ pushes d.id (data_of place bytes)) same)
    (after place bytes) (body_closes (has_ended (after place bytes)) (fault_at (after place bytes)))

so_as : (k l h i : EventReading) → l ≡ k → i ≡ h → AreSo k h → AreSo l i
so_as k l h i same other so =
    subst (λ (x : EventReading). AreSo x i) (sym same) (subst (λ (x : EventReading). AreSo k x) (sym other) so)

-- a source's head, whose data come so
framed_so : (c d : Conversation) → IsAlike c d → (request : RequestParts) (behind : List ℕ) {F : Type 0} (start_at : F → Place) (one other : Option F → EventReading)
    → one None ≡ refuses c BadHead → other None ≡ refuses d BadHead
    → ((f : F) → one (Some f) ≡ body_heard (greeted c request) (asks_to_feed c.id request ∷ []) (start_at f) behind)
    → ((f : F) → other (Some f) ≡ body_heard (greeted d request) (asks_to_feed d.id request ∷ []) (start_at f) behind)
    → (framing : Option F) → AreSo (one framing) (other framing)
framed_so c d a request behind start_at one other none none' some some' None =
    so_as (refuses c BadHead) (one None) (refuses d BadHead) (other None) none none' (refuses_so c d a BadHead)
framed_so c d a request behind start_at one other none none' some some' (Some f) =
    so_as (body_heard (greeted c request) (asks_to_feed c.id request ∷ []) (start_at f) behind) (one (Some f))
    (body_heard (greeted d request) (asks_to_feed d.id request ∷ []) (start_at f) behind) (other (Some f)) (some f) (some' f)
    (body_so (greeted c request) (greeted d request) (record { id = a.id; held = a.held; hears = a.hears; web = a.web })
    (asks_to_feed c.id request ∷ []) (asks_to_feed d.id request ∷ []) (ap (λ (n : ℕ). asks_to_feed n request ∷ []) a.id) (start_at f) behind)

source_so : (c d : Conversation) → IsAlike c d → (request : RequestParts) (behind : List ℕ)
    → AreSo (source_heard c request behind (framing_of request)) (source_heard d request behind (framing_of request))
source_so c d a request behind =
    framed_so c d a request behind start_of (source_heard c request behind) (source_heard d request behind) refl refl (λ f. refl) (λ f. refl) (framing_of request)

get_so : (c d : Conversation) → IsAlike c d → (request : RequestParts) → AreSo (get_heard c request) (get_heard d request)
get_so c d a request = record {
  events = ap (λ (w : WebAnswers). asks_by_get w c.id request ∷ []) a.web ∙ ap (λ (n : ℕ). asks_by_get d.says.web n request ∷ []) a.id;
  conversation = record { id = a.id; held = refl; hears = refl; web = a.web };
}

method_so : (c d : Conversation) → IsAlike c d → (request : RequestParts) (behind : List ℕ) (feeds gets : Bool)
    → AreSo (if feeds then source_heard c request behind (framing_of request) else if gets then get_heard c request else refuses c BadMethod)
    (if feeds then source_heard d request behind (framing_of request) else if gets then get_heard d request else refuses d BadMethod)
method_so c d a request behind true gets = source_so c d a request behind
method_so c d a request behind false true = get_so c d a request
method_so c d a request behind false false = refuses_so c d a BadMethod

reading_so : (c d : Conversation) → IsAlike c d → (bytes : List ℕ) (reading : Result (Progress RequestParts) HeadFault)
    → AreSo (head_heard c bytes reading) (head_heard d bytes reading)
reading_so c d a bytes (Ok More) = record { events = refl; conversation = record { id = a.id; held = refl; hears = a.hears; web = a.web } }
reading_so c d a bytes (Ok (Whole request length)) =
    method_so (nothing_held c) (nothing_held d) (record { id = a.id; held = refl; hears = a.hears; web = a.web }) request (drop length bytes)
    (is_source request) (bytes_eq request.method (codes "GET"))
reading_so c d a bytes (Err fault) = refuses_so c d a BadHead

-- what is read in the one is read in the other
module _ (c d : Conversation) (a : IsAlike c d) (bytes : List ℕ) (h : EventReading) where
  abbrev HearsSo : Hears → Type 0
  HearsSo v = (k : EventReading) × HearsAs v c bytes k × AreSo k h

  as_heard : (k x : EventReading) → AreSo k x → h ≡ x → AreSo k h
  as_heard k x so e = subst (λ (y : EventReading). AreSo k y) (sym e) so

  by_kind : (v : Hears) → HearsAs v d bytes h → HearsSo v
  by_kind Head (reading, r, e) = (
    head_heard c (d.held ++ bytes) reading,
    (
      reading,
      subst (λ (held : List ℕ). IsReading ShowsRequest (held ++ bytes) reading) (sym a.held) r,
      ap (λ (held : List ℕ). head_heard c (held ++ bytes) reading) (sym a.held),
    ),
    as_heard (head_heard c (d.held ++ bytes) reading) (head_heard d (d.held ++ bytes) reading) (reading_so c d a (d.held ++ bytes) reading) e,
  )
  by_kind (Body body) e = (
    body_heard (nothing_held c) [] body.place bytes,
    refl,
    as_heard (body_heard (nothing_held c) [] body.place bytes) (body_heard (nothing_held d) [] body.place bytes)
        (body_so (nothing_held c) (nothing_held d) (record { id = a.id; held = refl; hears = a.hears; web = a.web }) [] [] refl body.place bytes) e,
  )
  by_kind Nothing e = (
    record { events = []; conversation = c },
    refl,
    as_heard (record { events = []; conversation = c }) (record { events = []; conversation = d }) (record { events = refl; conversation = a }) e,
  )

  pub hears_so : IsHeard d bytes h → (k : EventReading) × IsHeard c bytes k × AreSo k h
  hears_so is = by_kind c.hears (subst (λ (v : Hears). HearsAs v d bytes h) (sym a.hears) is)
