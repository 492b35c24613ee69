-- What bytes leave of a client's connection that is served event by event.
use Rattle.std.proofs.Common.{◌≡◌, ◌⊎◌, inl, inr, ℕ, List, [], ◌∷◌, ◌++◌, drop, refl, sym, ap, subst, ◌∙◌}
use Rattle.radio_headline.proofs.Words.{concat, append-nil, Peer, blocks_of, Entry, Event, Leave, Arrived, RequestParts, ShowsRequest, IsStableReading, HeadsLieWithin, IsReading, unfed, Place, after, data_of, fault_at}
use Rattle.radio_headline.proofs.Words.{has_ended, WebAnswers, Hears, Body, Nothing, Says, asks_by_get, asks_to_feed, asking, greeting_of, EventReading, HearsAs, IsHeard, body_closes, greeted, head_heard, nothing_held}
use Rattle.radio_headline.proofs.Words.{HasAllApplied, pushed}
use Rattle.radio_session.specs.declared.session.Hears.TheVariants.{Head as HearsHead}
use Rattle.radio_connections.specs.Course.{Standing}
use Rattle.radio_headline.proofs.AppliedLemmas.{EachAsked, said_all, web_stays}
use Rattle.radio_headline.proofs.Connections.{IsBehindRequest, IsTold}
use Rattle.radio_headline.proofs.HeardLemmas.{AGet, ASource, Delivers, HeadHeard, IsRefused, Unfinished, behind_head, delivers_by, more_for_get, more_for_source, of_reading}
use Rattle.radio_headline.proofs.Logs.{replies}
use Rattle.radio_headline.proofs.ServedStages.{AsksToFeed, AtHead, FeedsOn, Gets, Goes, HasGot, IsAsking, IsFeeding, Refused, nothing_asked, told_as}

module _ (settled : IsStableReading ShowsRequest) (within : HeadsLieWithin ShowsRequest) (joined : (bytes : List ℕ) → concat (blocks_of bytes) ≡ bytes)
    (places : (place : Place) (first second : List ℕ) → after place (first ++ second) ≡ after (after place first) second)
    (data_joined : (place : Place) (first second : List ℕ) → data_of place (first ++ second) ≡ data_of place first ++ data_of (after place first) second)
    (web : WebAnswers) (peer : Peer) (id : ℕ) (s : Standing) (same : s.session.id ≡ id) (bytes : List ℕ) where
  abbrev all : List ℕ
  all = s.given ++ bytes

  -- the connection's state after this reading
  abbrev pub then_heard : EventReading → Standing
  then_heard heard = record s { given = all; session = heard.conversation; pending = heard.events }

  abbrev pub HasHeard : EventReading → Type 0
  HasHeard heard = Goes web peer id (then_heard heard) × (heard.conversation.id ≡ id)

  abbrev nothing_heard : EventReading
  nothing_heard = record { events = []; conversation = s.session }

  abbrev still_asking : (heard : EventReading) → IsAsking web peer id s → IsAsking web peer id (then_heard heard)
  still_asking heard a = record { idle = a.idle; arrived = a.arrived; idles = a.idles }

  -- its head was read, or a part of it
  module _ (a : IsAsking web peer id s) (hears : s.session.hears ≡ HearsHead) (t : IsTold web s.session s.entries s.text) where
    keeps_web : s.session.says.web ≡ web
    keeps_web = ap (λ (x : Says). x.web) t.says ∙ web_stays (asking web) (replies s.entries)

    a_get : (request : RequestParts) → asks_by_get s.session.says.web s.session.id request ≡ asks_by_get web id request
    a_get request = ap (λ (x : WebAnswers). asks_by_get x s.session.id request) keeps_web ∙ ap (λ (n : ℕ). asks_by_get web n request) same

    says_so : s.session.says ≡ said_all (asking web) (Arrived id ∷ replies a.idle)
    says_so = t.says ∙ ap (λ (xs : List Entry). said_all (asking web) (replies xs)) a.arrived

    by_head : (heard : EventReading) → HeadHeard settled within joined places data_joined s.session all heard → HasHeard heard
    by_head heard Unfinished = (AtHead (still_asking heard a) hears refl (told_as web s.session heard.conversation s.entries s.text t refl) tt, same)
    by_head heard (IsRefused rule) = (Refused (nothing_asked web peer id s a) refl (inr (ap (λ (n : ℕ). Leave n) same), tt), same)
    by_head heard (AGet request n reading no_source is_get) = (
      Gets (still_asking heard a)
          (record {
            request = request;
            length = n;
            reading = reading;
            no_source = no_source;
            is_get = is_get;
            waits = ap (λ (e : Event). e ∷ []) (a_get request);
          })
          refl (told_as web s.session heard.conversation s.entries s.text t refl),
      same,
    )
    by_head heard (ASource request n start reading source framed) =
        let d = delivers_by settled within joined places data_joined (greeted (nothing_held s.session) request) (asks_to_feed s.session.id request ∷ []) start (drop n all)
        (body_closes (has_ended (after start (drop n all))) (fault_at (after start (drop n all)))) in (
          AsksToFeed (still_asking heard a)
              (record {
                request = request;
                length = n;
                reading = reading;
                source = source;
                start = start;
                framed = framed;
                closing = d.closing;
                says = d.says ∙ ap (λ (x : Says). record x { greeting = greeting_of request; closing = d.closing }) says_so;
                goes = t.goes;
                is_told = t.is_told;
                asked = d.asked;
                waits = d.events ∙ ap (λ (m : ℕ). asks_to_feed m request ∷ d.asked) same;
                each = subst (λ (m : ℕ). EachAsked (IsBehindRequest m) d.asked) same d.each;
                content = d.content;
                hears = d.hears;
              }),
          d.his ∙ same,
        )

  -- how far its body has come
  abbrev place_of : IsFeeding web peer id s → Place
  place_of f = after f.feeds.start (drop f.feeds.length s.given)

  there : (f : IsFeeding web peer id s) → after (place_of f) bytes ≡ after f.feeds.start (drop f.feeds.length all)
  there f =
      sym (places f.feeds.start (drop f.feeds.length s.given) bytes)
      ∙ ap (after f.feeds.start) (sym (behind_head settled within joined places data_joined s.given bytes f.feeds.request f.feeds.length f.feeds.reading))

  -- more of its body was read
  body_heard_on : (f : IsFeeding web peer id s) → s.pending ≡ [] → f.lost ≡ [] → (heard : EventReading)
      → Delivers settled within joined places data_joined (nothing_held s.session) [] (place_of f) bytes heard → HasHeard heard
  body_heard_on f none whole heard d = (
    FeedsOn (record {
      feeds = more_for_source settled within joined places data_joined s.given bytes s.entries f.feeds;
      greeted = f.greeted;
      each = subst (EachAsked (IsBehindRequest id)) (sym d.events) (subst (λ (m : ℕ). EachAsked (IsBehindRequest m) d.asked) same d.each);
      lost = [];
      rest = ap (λ (xs : List ℕ). xs ++ data_of (place_of f) bytes) (f.rest ∙ ap (λ (es : List Event). pushed es ++ f.lost) none ∙ whole)
          ∙ sym d.content ∙ ap pushed (sym d.events) ∙ sym (append-nil (pushed heard.events));
      hears = elim d.hears [
        | inl body ↦ inl (refl, body ∙ ap (λ (p : Place). Body (unfed p)) (there f))
        | inr nothing ↦ inr nothing
      ];
    }),
    d.his ∙ same,
  )

  pub hears_goes : HasAllApplied s → (heard : EventReading) → IsHeard s.session bytes heard → Goes web peer id s → HasHeard heard
  hears_goes quiet heard is = by_stage where
    as_known : (v : Hears) → s.session.hears ≡ v → HearsAs v s.session bytes heard
    as_known v e = subst (λ (x : Hears). HearsAs x s.session bytes heard) e is

    silent : s.session.hears ≡ Nothing → HasHeard nothing_heard → HasHeard heard
    silent e was = subst HasHeard (sym (as_known Nothing e)) was

    by_hears : (f : IsFeeding web peer id s)
        → ((f.lost ≡ []) × (s.session.hears ≡ Body (unfed (place_of f)))) ⊎ (s.session.hears ≡ Nothing) → HasHeard heard
    by_hears f (inl (whole, body)) =
        let place = place_of f in
        subst HasHeard (sym (as_known (Body (unfed place)) body))
        (body_heard_on f quiet.1 whole _
        (delivers_by settled within joined places data_joined (nothing_held s.session) [] place bytes
        (body_closes (has_ended (after place bytes)) (fault_at (after place bytes)))))
    by_hears f (inr nothing) = silent nothing (
      FeedsOn (record {
        feeds = more_for_source settled within joined places data_joined s.given bytes s.entries f.feeds;
        greeted = f.greeted;
        each = tt;
        lost = f.feeds.rest ++ data_of (place_of f) bytes;
        rest = refl;
        hears = inr nothing;
      }),
      same,
    )

    by_stage : Goes web peer id s → HasHeard heard
    by_stage (AtHead a hears held t each) =
        let r = as_known HearsHead hears in
        subst HasHeard (sym (r.2 ∙ ap (λ (b : List ℕ). head_heard s.session (b ++ bytes) r.0) held))
        (by_head a hears t (head_heard s.session all r.0)
        (of_reading settled within joined places data_joined s.session all r.0 (subst (λ (b : List ℕ). IsReading ShowsRequest (b ++ bytes) r.0) held r.1)))
    by_stage (Gets a g hears t) = absurd (let both : [] ≡ asks_by_get web id g.request ∷ [] = sym quiet.1 ∙ g.waits in cc)
    by_stage (HasGot g hears t each) =
        silent hears (HasGot (more_for_get settled within joined places data_joined web s.given bytes s.entries s.text g) hears t tt, same)
    by_stage (AsksToFeed a h) = absurd (let both : [] ≡ asks_to_feed id h.request ∷ h.asked = sym quiet.1 ∙ h.waits in cc)
    by_stage (FeedsOn f) = by_hears f f.hears
    by_stage (Refused h hears each) = silent hears (Refused h hears tt, same)
