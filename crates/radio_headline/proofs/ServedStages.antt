-- The stages of a client's connection that is served event by event, and the events that may follow.
use Rattle.std.proofs.Common.{◌≡◌, ◌⊎◌, inl, inr, ℕ, true, false, List, [], ◌∷◌, ◌++◌, drop, Option, Some, Ok, refl, sym, ap, subst, ◌∙◌, append_assoc}
use Rattle.radio_headline.proofs.Words.{codes, option_map, bytes_eq, append-nil, Peer, Entry, Event, Draw, Reply, Arrived, State, Running, client_in, entry, Whole, RequestParts, ShowsRequest, IsReading, unfed, Place}
use Rattle.radio_headline.proofs.Words.{after, data_of, WebAnswers, Closing, Body, Nothing, Says, asks_by_get, asks_to_feed, Conversation, asking, saying_now, framing_of, is_source, start_of, Said, said, told}
use Rattle.radio_headline.proofs.Words.{standing_after_reply, pending_by, pushed}
use Rattle.radio_session.specs.declared.session.Hears.TheVariants.{Head as HearsHead}
use Rattle.radio_connections.specs.Course.{Standing}
use Rattle.radio_headline.proofs.AppliedLemmas.{EachAsked, IsLast, IsNotLast, IsOpen, IsOrderly, nothing_later, open_joined, said_all, said_joined, told_joined}
use Rattle.radio_headline.proofs.ClientEvents.{IsIdleOrLeave, behind_is_his, events_of_joined, feeds_with, get_with, idle_asks_nothing, idle_is_his, idle_or_leaving_is_his, pushed_joined}
use Rattle.radio_headline.proofs.Connections.{arrival, AsksForMount, AsksNothing, ByGet, Facts, Feeds, HasAskedNothing, HasSentGet, IsBehindRequest, IsGreeted, IsIdleOrLeaving, IsNoRequest, IsSource, IsTold, events_of}
use Rattle.radio_headline.proofs.GetLogs.{get_is_his}
use Rattle.radio_headline.proofs.Greetings.{Greeted, greeted_on, greeted_says}
use Rattle.radio_headline.proofs.Logs.{Each, each_as, each_joined, each_second, replies, replies_joined}
use Rattle.radio_headline.proofs.ReplyForms.{IsIdle}
use Rattle.radio_headline.proofs.RunLemmas.{IsIdling}
use Rattle.radio_headline.proofs.Settling.{logged}

told_one : (says : Says) (reply : Reply) → told says (reply ∷ []) ≡ (said says reply).bytes
told_one says reply =
    ap (λ (xs : List ℕ). (said says reply).bytes ++ xs) (nothing_later (said says reply).state) ∙ append-nil (said says reply).bytes

-- one more reply is written
module _ (web : WebAnswers) (conversation : Conversation) (log : List Entry) (text : List ℕ) (t : IsTold web conversation log text) (one : Entry) where
  abbrev of : Said
  of = said conversation.says one.reply

  pub told_then : text ++ of.bytes ≡ told (asking web) (replies (log ++ one ∷ []))
  told_then =
      ap (λ (xs : List ℕ). xs ++ of.bytes) t.is_told
      ∙ ap (λ (s : Says). told (asking web) (replies log) ++ (said s one.reply).bytes) t.says
      ∙ ap (λ (xs : List ℕ). told (asking web) (replies log) ++ xs) (sym (told_one (said_all (asking web) (replies log)) one.reply))
      ∙ sym (told_joined (asking web) (replies log) (one.reply ∷ []) t.goes)
      ∙ ap (λ (rs : List Reply). told (asking web) rs) (sym (replies_joined log (one ∷ [])))

  pub still_then : of.state ≡ Running → IsTold web (saying_now conversation of.says) (log ++ one ∷ []) (text ++ of.bytes)
  still_then run = record {
    says = ap (λ (s : Says). (said s one.reply).says) t.says ∙ sym (said_joined (asking web) (replies log) (one.reply ∷ []))
        ∙ ap (λ (rs : List Reply). said_all (asking web) rs) (sym (replies_joined log (one ∷ [])));
    goes = subst (λ (rs : List Reply). IsOpen (asking web) rs) (sym (replies_joined log (one ∷ [])))
        (open_joined (asking web) (replies log) (one.reply ∷ []) t.goes (ap (λ (s : Says). (said s one.reply).state) (sym t.says) ∙ run, tt));
    is_told = told_then;
  }

pub told_as : (web : WebAnswers) (c d : Conversation) (log : List Entry) (text : List ℕ) → IsTold web c log text → d.says ≡ c.says → IsTold web d log text
told_as web c d log text t same = record { says = same ∙ t.says; goes = t.goes; is_told = t.is_told }

idle_or_leaving_asks_nothing : (id : ℕ) (event : Event) → IsIdleOrLeave id event → AsksForMount event → ⊥
idle_or_leaving_asks_nothing id event (inl h) a = idle_asks_nothing id event h a
idle_or_leaving_asks_nothing id event (inr e) a = subst AsksForMount e a

module _ (web : WebAnswers) (peer : Peer) (id : ℕ) where
  -- no request was applied
  pub record IsAsking (s : Standing) : Type 0 where
    pub idle : List Entry
    pub arrived : s.entries ≡ arrival peer id ∷ idle
    pub idles : Each (IsIdling id) idle

  -- a GET was read, and is still to be applied
  pub record HasHeardGet (s : Standing) : Type 0 where
    pub request : RequestParts
    pub length : ℕ
    pub reading : IsReading ShowsRequest s.given (Ok (Whole request length))
    pub no_source : is_source request ≡ false
    pub is_get : bytes_eq request.method (codes "GET") ≡ true
    pub waits : s.pending ≡ asks_by_get web id request ∷ []

  -- a source's head was read: its request is still to be applied, and then the first of its body
  pub record HasHeardSource (s : Standing) (idle : List Entry) : Type 0 where
    pub request : RequestParts
    pub length : ℕ
    pub reading : IsReading ShowsRequest s.given (Ok (Whole request length))
    pub source : is_source request ≡ true
    pub start : Place
    pub framed : option_map start_of (framing_of request) ≡ Some start
    pub closing : Option Closing
    pub says : s.session.says ≡ greeted_says web id idle request closing
    pub goes : IsOpen (asking web) (replies s.entries)
    pub is_told : s.text ≡ told (asking web) (replies s.entries)
    pub asked : List Event
    pub waits : s.pending ≡ asks_to_feed id request ∷ asked
    pub each : EachAsked (IsBehindRequest id) asked
    pub content : pushed asked ≡ data_of start (drop length s.given)
    pub hears : (s.session.hears ≡ Body (unfed (after start (drop length s.given)))) ⊎ (s.session.hears ≡ Nothing)

  -- its request was applied: what it still brings is a front of what its body brings
  pub record IsFeeding (s : Standing) : Type 0 where
    pub feeds : Feeds s.given s.entries
    pub greeted : IsGreeted web feeds s.text
    pub each : EachAsked (IsBehindRequest id) s.pending
    pub lost : List ℕ
    pub rest : feeds.rest ≡ pushed s.pending ++ lost
    pub hears : ((lost ≡ []) × (s.session.hears ≡ Body (unfed (after feeds.start (drop feeds.length s.given))))) ⊎ (s.session.hears ≡ Nothing)

  -- how far a connection that goes on has come
  pub data Goes (s : Standing) : Type 0 where
    AtHead : IsAsking s → s.session.hears ≡ HearsHead → s.session.held ≡ s.given → IsTold web s.session s.entries s.text → EachAsked (IsIdle id) s.pending → Goes s
    Gets : IsAsking s → HasHeardGet s → s.session.hears ≡ Nothing → IsTold web s.session s.entries s.text → Goes s
    HasGot : ByGet web s.given s.entries s.text → s.session.hears ≡ Nothing → IsTold web s.session s.entries s.text → EachAsked (IsIdle id) s.pending → Goes s
    AsksToFeed : (a : IsAsking s) → HasHeardSource s a.idle → Goes s
    FeedsOn : IsFeeding s → Goes s
    Refused : Each AsksNothing s.entries → s.session.hears ≡ Nothing → EachAsked (IsIdleOrLeave id) s.pending → Goes s

  pub nothing_asked : (s : Standing) → IsAsking s → Each AsksNothing s.entries
  nothing_asked s a =
      subst (Each AsksNothing) (sym a.arrived) ((λ x. x), each_as (IsIdling id) AsksNothing (λ e h. idle_asks_nothing id e.event h) a.idle a.idles)

  -- the arrival of this connection is of this client
  pub same_arrival : (log others : List Entry) (him : ℕ) (from : Peer) (rest : List Entry) → log ≡ arrival peer id ∷ others → log ≡ arrival from him ∷ rest → him ≡ id
  same_arrival log others him from rest arrived e =
      let both : arrival from him ∷ rest ≡ arrival peer id ∷ others = sym e ∙ arrived in
      let first : arrival from him ≡ arrival peer id = cc in
      let reply : Arrived him ≡ Arrived id = ap (λ (x : Entry). x.reply) first in
      cc

  -- there is room for some data
  pub room_goes : (s : Standing) (room : ℕ) → s.pending ≡ [] → Goes s → Goes (record s { pending = Draw id room ∷ [] })
  room_goes s room none (AtHead a hears held t each) = AtHead (record { idle = a.idle; arrived = a.arrived; idles = a.idles }) hears held t (refl, tt)
  room_goes s room none (Gets a g hears t) = absurd (let both : [] ≡ asks_by_get web id g.request ∷ [] = sym none ∙ g.waits in cc)
  room_goes s room none (HasGot g hears t each) = HasGot g hears t (refl, tt)
  room_goes s room none (AsksToFeed a h) = absurd (let both : [] ≡ asks_to_feed id h.request ∷ h.asked = sym none ∙ h.waits in cc)
  room_goes s room none (FeedsOn f) = FeedsOn (record {
    feeds = f.feeds;
    greeted = f.greeted;
    each = (refl, tt);
    lost = f.lost;
    rest = f.rest ∙ ap (λ (es : List Event). pushed es ++ f.lost) none;
    hears = f.hears;
  })
  room_goes s room none (Refused h hears each) = Refused h hears (inl refl, tt)

  -- the first of the events is applied, with this reply
  module _ (s : Standing) (event : Event) (later : List Event) (some : s.pending ≡ event ∷ later) (reply : Reply) (others : List Entry)
      (arrived : s.entries ≡ arrival peer id ∷ others) (not_last : Each IsNotLast s.entries) (orderly : IsOrderly id (s.entries ++ entry event reply ∷ [])) where
    abbrev one : Entry
    one = entry event reply

    abbrev now : Said
    now = said s.session.says reply

    -- the state after it
    pub record IsApplied : Type 0 where
      pub his : client_in event ≡ Some id
      pub facts : Facts web s.given (s.entries ++ one ∷ []) (s.text ++ now.bytes)
      pub goes : now.state ≡ Running → Goes (standing_after_reply s event later reply)

    waiting : (P : Event → Type 0) → now.state ≡ Running → EachAsked P later → EachAsked P (pending_by now.state later)
    waiting P run h = subst (λ (state : State). EachAsked P (pending_by state later)) (sym run) h

    first : (P : Event → Type 0) → EachAsked P s.pending → P event × EachAsked P later
    first P each = subst (EachAsked P) some each

    joined_log : (him : ℕ) (from : Peer) (idle : List Entry) (x : Entry) (behind : List Entry) → s.entries ≡ arrival from him ∷ idle ++ x ∷ behind
        → s.entries ++ one ∷ [] ≡ arrival from him ∷ idle ++ x ∷ (behind ++ one ∷ [])
    joined_log him from idle x behind e =
        ap (λ (xs : List Entry). xs ++ one ∷ []) e ∙ logged (arrival from him) idle (x ∷ behind) (one ∷ [])

    at_head : IsAsking s → s.session.hears ≡ HearsHead → s.session.held ≡ s.given → IsTold web s.session s.entries s.text → IsIdle id event × EachAsked (IsIdle id) later
        → IsApplied
    at_head a hears held t idle = record {
      his = idle_is_his id event idle.0;
      facts = HasAskedNothing (each_joined AsksNothing s.entries (one ∷ []) (nothing_asked s a) (idle_asks_nothing id event idle.0, tt));
      goes = λ run.
          AtHead (record {
            idle = a.idle ++ one ∷ [];
            arrived = ap (λ (xs : List Entry). xs ++ one ∷ []) a.arrived;
            idles = each_joined (IsIdling id) a.idle (one ∷ []) a.idles (idle.0, tt);
          }) hears held (still_then web s.session s.entries s.text t one run) (waiting (IsIdle id) run idle.1);
    }

    gets : IsAsking s → (g : HasHeardGet s) → s.session.hears ≡ Nothing → IsTold web s.session s.entries s.text → event ≡ asks_by_get web id g.request → later ≡ []
        → IsApplied
    gets a g hears t same rest = record {
      his = ap client_in same ∙ get_is_his web id g.request;
      facts = HasSentGet by_get;
      goes = λ run.
          HasGot by_get hears (still_then web s.session s.entries s.text t one run) (waiting (IsIdle id) run (subst (EachAsked (IsIdle id)) (sym rest) tt));
    } where
      by_get : ByGet web s.given (s.entries ++ one ∷ []) (s.text ++ now.bytes)
      by_get = record {
        id = id;
        peer = peer;
        idle = a.idle;
        request = g.request;
        reply = reply;
        behind = [];
        in_order = ap (λ (xs : List Entry). xs ++ one ∷ []) a.arrived ∙ ap (λ (x : Event). arrival peer id ∷ a.idle ++ entry x reply ∷ []) same;
        idles = a.idles;
        goes = subst (λ (xs : List Entry). IsOpen (asking web) (replies xs)) a.arrived t.goes;
        no_more = tt;
        orderly = orderly;
        length = g.length;
        reading = g.reading;
        no_source = g.no_source;
        is_get = g.is_get;
        is_told = told_then web s.session s.entries s.text t one;
      }

    has_got : ByGet web s.given s.entries s.text → s.session.hears ≡ Nothing → IsTold web s.session s.entries s.text → IsIdle id event × EachAsked (IsIdle id) later
        → IsApplied
    has_got g hears t idle = record {
      his = idle_is_his id event idle.0;
      facts = HasSentGet got;
      goes = λ run. HasGot got hears (still_then web s.session s.entries s.text t one run) (waiting (IsIdle id) run idle.1);
    } where
      him : g.id ≡ id
      him = same_arrival s.entries others g.id g.peer _ arrived g.in_order

      got : ByGet web s.given (s.entries ++ one ∷ []) (s.text ++ now.bytes)
      got = get_with web s.given s.given s.entries (s.entries ++ one ∷ []) s.text (s.text ++ now.bytes) g g.reading (g.behind ++ one ∷ [])
          (joined_log g.id g.peer g.idle (entry (asks_by_get web g.id g.request) g.reply) g.behind g.in_order)
          (each_joined (IsIdleOrLeaving g.id) g.behind (one ∷ []) g.no_more (inl (subst (λ (n : ℕ). IsIdle n event) (sym him) idle.0), tt))
          (subst (λ (n : ℕ). IsOrderly n (s.entries ++ one ∷ [])) (sym him) orderly) (told_then web s.session s.entries s.text t one)

    abbrev first_feeds : (a : IsAsking s) (h : HasHeardSource s a.idle) → event ≡ asks_to_feed id h.request → Feeds s.given (s.entries ++ one ∷ [])
    first_feeds a h same = record {
      id = id;
      peer = peer;
      idle = a.idle;
      request = h.request;
      reply = reply;
      behind = [];
      in_order = ap (λ (xs : List Entry). xs ++ one ∷ []) a.arrived ∙ ap (λ (x : Event). arrival peer id ∷ a.idle ++ entry x reply ∷ []) same;
      idles = a.idles;
      no_more = tt;
      orderly = orderly;
      length = h.length;
      reading = h.reading;
      source = h.source;
      start = h.start;
      framed = h.framed;
      rest = data_of h.start (drop h.length s.given);
      front = refl;
    }

    first_told : (a : IsAsking s) (h : HasHeardSource s a.idle) → Greeted web id a.idle h.request reply (s.text ++ now.bytes)
    first_told a h = record {
      goes = subst (λ (xs : List Entry). IsOpen (asking web) (replies xs)) a.arrived h.goes;
      closing = h.closing;
      rest = [];
      is_told =
          ap (λ (xs : List ℕ). xs ++ now.bytes) (h.is_told ∙ ap (λ (xs : List Entry). told (asking web) (replies xs)) a.arrived)
          ∙ ap (λ (xs : List ℕ). told (asking web) (Arrived id ∷ replies a.idle) ++ xs)
          (ap (λ (x : Says). (said x reply).bytes) h.says ∙ sym (append-nil (said (greeted_says web id a.idle h.request h.closing) reply).bytes));
      ends = λ last. refl;
    }

    asks_to : (a : IsAsking s) (h : HasHeardSource s a.idle) → event ≡ asks_to_feed id h.request → later ≡ h.asked → IsApplied
    asks_to a h same others_asked = record {
      his = ap client_in same;
      facts = IsSource (first_feeds a h same) (first_told a h);
      goes = λ run. FeedsOn (record {
        feeds = first_feeds a h same;
        greeted = first_told a h;
        each = waiting (IsBehindRequest id) run (subst (EachAsked (IsBehindRequest id)) (sym others_asked) h.each);
        lost = [];
        rest = sym h.content ∙ ap pushed (sym others_asked) ∙ ap (λ (state : State). pushed (pending_by state later)) (sym run)
            ∙ sym (append-nil (pushed (pending_by now.state later)));
        hears = elim h.hears [
          | inl body ↦ inl (refl, body)
          | inr nothing ↦ inr nothing
        ];
      });
    }

    module _ (f : IsFeeding s) (behind : IsBehindRequest id event × EachAsked (IsBehindRequest id) later) where
      abbrev was : Feeds s.given s.entries
      was = f.feeds

      him : was.id ≡ id
      him = same_arrival s.entries others was.id was.peer _ arrived was.in_order

      no_last : IsLast was.reply → ⊥
      no_last = (each_second IsNotLast (arrival was.peer was.id ∷ was.idle) _ (subst (Each IsNotLast) was.in_order not_last)).0

      is_front : pushed (events_of (was.behind ++ one ∷ [])) ++ (pushed later ++ f.lost) ≡ data_of was.start (drop was.length s.given)
      is_front =
          ap (λ (xs : List ℕ). xs ++ (pushed later ++ f.lost))
          (ap pushed (events_of_joined was.behind (one ∷ [])) ∙ pushed_joined (events_of was.behind) (event ∷ []))
          ∙ append_assoc (pushed (events_of was.behind)) (pushed (event ∷ [])) (pushed later ++ f.lost)
          ∙ ap (λ (xs : List ℕ). pushed (events_of was.behind) ++ xs)
          (sym (append_assoc (pushed (event ∷ [])) (pushed later) f.lost) ∙ ap (λ (xs : List ℕ). xs ++ f.lost) (sym (pushed_joined (event ∷ []) later))
          ∙ ap (λ (es : List Event). pushed es ++ f.lost) (sym some) ∙ sym f.rest)
          ∙ was.front

      abbrev more : Feeds s.given (s.entries ++ one ∷ [])
      more = feeds_with s.given s.given s.entries (s.entries ++ one ∷ []) was was.reading (was.behind ++ one ∷ [])
          (joined_log was.id was.peer was.idle (entry (asks_to_feed was.id was.request) was.reply) was.behind was.in_order)
          (each_joined (IsNoRequest was.id) was.behind (one ∷ []) was.no_more (subst (λ (n : ℕ). IsBehindRequest n event) (sym him) behind.0, tt))
          (subst (λ (n : ℕ). IsOrderly n (s.entries ++ one ∷ [])) (sym him) orderly) (pushed later ++ f.lost) is_front

      still_greeted : Greeted web was.id was.idle was.request was.reply (s.text ++ now.bytes)
      still_greeted = greeted_on web was.id was.idle was.request was.reply s.text now.bytes f.greeted no_last

      feeds_on : IsApplied
      feeds_on = record {
        his = behind_is_his id event behind.0;
        facts = IsSource more still_greeted;
        goes = λ run. FeedsOn (record {
          feeds = more;
          greeted = still_greeted;
          each = waiting (IsBehindRequest id) run behind.1;
          lost = f.lost;
          rest = ap (λ (state : State). pushed (pending_by state later) ++ f.lost) (sym run);
          hears = f.hears;
        });
      }

    refused : Each AsksNothing s.entries → s.session.hears ≡ Nothing → IsIdleOrLeave id event × EachAsked (IsIdleOrLeave id) later → IsApplied
    refused h hears leaving = record {
      his = idle_or_leaving_is_his id event leaving.0;
      facts = HasAskedNothing none;
      goes = λ run. Refused none hears (waiting (IsIdleOrLeave id) run leaving.1);
    } where
      none : Each AsksNothing (s.entries ++ one ∷ [])
      none = each_joined AsksNothing s.entries (one ∷ []) h (idle_or_leaving_asks_nothing id event leaving.0, tt)

    pub applied_goes : Goes s → IsApplied
    applied_goes (AtHead a hears held t each) = at_head a hears held t (first (IsIdle id) each)
    applied_goes (Gets a g hears t) =
        let both : event ∷ later ≡ asks_by_get web id g.request ∷ [] = sym some ∙ g.waits in
        let same : event ≡ asks_by_get web id g.request = cc in
        let rest : later ≡ [] = cc in
        gets a g hears t same rest
    applied_goes (HasGot g hears t each) = has_got g hears t (first (IsIdle id) each)
    applied_goes (AsksToFeed a h) =
        let both : event ∷ later ≡ asks_to_feed id h.request ∷ h.asked = sym some ∙ h.waits in
        let same : event ≡ asks_to_feed id h.request = cc in
        let rest : later ≡ h.asked = cc in
        asks_to a h same rest
    applied_goes (FeedsOn f) = feeds_on f (first (IsBehindRequest id) f.each)
    applied_goes (Refused h hears each) = refused h hears (first (IsIdleOrLeave id) each)
