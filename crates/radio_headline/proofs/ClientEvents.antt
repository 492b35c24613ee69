-- The events of a client, as they are exchanged.
use Rattle.std.proofs.Common.{◌≡◌, ◌⊎◌, inl, inr, ℕ, Bool, true, false, List, [], ◌∷◌, ◌++◌, drop, Some, Ok, refl, sym, ap, subst, ◌∙◌, append_assoc}
use Rattle.radio_headline.proofs.Words.{if◌then◌else◌, append-nil, flat_map-append, Peer, Entry, Event, Arrive, Source, Push, SourceEnd, Title, Listen, Draw, Command, Leave, RelayUp, RelayDown, Clock, Reply, Arrived}
use Rattle.radio_headline.proofs.Words.{client_in, reply_to, world_after, World, Whole, ShowsRequest, IsReading, data_of, Says, State, Running, Shut, asks_to_feed, asks_by_get, Conversation, asking, saying_now}
use Rattle.radio_headline.proofs.Words.{WorldExchange, exchanged, then_exchanged, is_leave, said, told, Client, connection_unless, and_then, applied, applied_entry, pushed, pushed_by, WebAnswers}
use Rattle.radio_headline.proofs.Logs.{entries, replies, replies_joined, Each, each_as, each_joined}
use Rattle.radio_headline.proofs.AppliedLemmas.{EachAsked, applied_each, applied_tell, goes_on, IsNotLast, IsOpen, IsOrderly, none_last}
use Rattle.radio_headline.proofs.AppliedLemmas.{open_joined, said_all, said_joined, told_joined}
use Rattle.radio_headline.proofs.ReplyForms.{IsIdle}
use Rattle.radio_headline.proofs.RunLemmas.{IsOwn}
use Rattle.radio_headline.proofs.Connections.{arrival, events_of, IsIdleOrLeaving, IsBehindRequest, IsNoRequest, AsksForMount, ByGet, Feeds}
use Rattle.radio_headline.proofs.Connections.{Facts, IsTold, Stage}
use Rattle.radio_headline.proofs.Connections.{IsSo}

pub events_of_entries : (w : World) (events : List Event) → events_of (entries w events) ≡ events
events_of_entries w [] = refl
events_of_entries w (event ∷ events) = ap (λ (xs : List Event). event ∷ xs) (events_of_entries (world_after w event) events)

pub events_of_joined : (log more : List Entry) → events_of (log ++ more) ≡ events_of log ++ events_of more
events_of_joined [] more = refl
events_of_joined (e ∷ log) more = ap (λ (xs : List Event). e.event ∷ xs) (events_of_joined log more)

pub pushed_joined : (events more : List Event) → pushed (events ++ more) ≡ pushed events ++ pushed more
pushed_joined events more = flat_map-append pushed_by events more

abbrev pub PushesNothing : Event → Type 0
PushesNothing event = pushed_by event ≡ []

pub none_pushed : (log : List Entry) → Each (λ e. PushesNothing e.event) log → pushed (events_of log) ≡ []
none_pushed [] h = refl
none_pushed (e ∷ log) h = ap (λ (xs : List ℕ). xs ++ pushed (events_of log)) h.0 ∙ none_pushed log h.1

-- the blocks pushed are a front of those that the events ask to push, and all of them if the connection goes on
pub record Pushed (w : World) (id : ℕ) (says : Says) (asked : List Event) : Type 0 where
  pub rest : List ℕ
  pub front : pushed (applied w id says asked) ++ rest ≡ pushed asked
  pub whole : (exchanged w id says asked).exchange.state ≡ Running → rest ≡ []

left_pushes : (leaves : Bool) (id : ℕ) → pushed (if leaves then [] else Leave id ∷ []) ≡ []
left_pushes true id = refl
left_pushes false id = refl

then_pushed : (w : World) (id : ℕ) (says : Says) (event : Event) (asked : List Event) (state : State) → (said says (reply_to w event)).state ≡ state
    → Pushed (world_after w event) id (said says (reply_to w event)).says asked → Pushed w id says (event ∷ asked)
then_pushed w id says event asked Running e p =
    let of = said says (reply_to w event) in
    let later = world_after w event in
    record {
      rest = p.rest;
      front = ap (λ (s : State). pushed (and_then id event s (applied later id of.says asked)) ++ p.rest) e
          ∙ append_assoc (pushed_by event) (pushed (applied later id of.says asked)) p.rest
          ∙ ap (λ (xs : List ℕ). pushed_by event ++ xs) p.front;
      whole = λ run. p.whole (sym (ap (λ (s : State). (then_exchanged later id event of s (exchanged later id of.says asked)).exchange.state) e) ∙ run);
    }
then_pushed w id says event asked (Shut ending) e p =
    let of = said says (reply_to w event) in
    let later = world_after w event in
    record {
      rest = pushed asked;
      front = ap (λ (s : State). pushed (and_then id event s (applied later id of.says asked)) ++ pushed asked) e
          ∙ ap (λ (xs : List ℕ). (pushed_by event ++ xs) ++ pushed asked) (left_pushes (is_leave event) id)
          ∙ ap (λ (xs : List ℕ). xs ++ pushed asked) (append-nil (pushed_by event));
      whole = λ run. let stopped = sym (ap (λ (s : State). (then_exchanged later id event of s (exchanged later id of.says asked)).exchange.state) e) ∙ run in cc;
    }

pub applied_pushed : (w : World) (id : ℕ) (says : Says) (asked : List Event) → Pushed w id says asked
applied_pushed w id says [] = record { rest = []; front = refl; whole = λ run. refl }
applied_pushed w id says (event ∷ asked) =
    then_pushed w id says event asked (said says (reply_to w event)).state refl
    (applied_pushed (world_after w event) id (said says (reply_to w event)).says asked)

-- the first is applied, and then others
pub record First (P : Event → Type 0) (w : World) (id : ℕ) (says : Says) (event : Event) (asked : List Event) : Type 0 where
  pub others : List Entry
  pub in_order : entries w (applied w id says (event ∷ asked)) ≡ applied_entry w event ∷ others
  pub each : Each (λ e. P e.event) others

first_by : (P : Event → Type 0) (w : World) (id : ℕ) (says : Says) (event : Event) (asked : List Event) (state : State)
    → (said says (reply_to w event)).state ≡ state → P (Leave id) → EachAsked P asked → First P w id says event asked
first_by P w id says event asked Running e l h =
    let of = said says (reply_to w event) in
    let later = world_after w event in
    record {
      others = entries later (applied later id of.says asked);
      in_order = ap (λ (s : State). entries w (and_then id event s (applied later id of.says asked))) e;
      each = applied_each P later id of.says asked l h;
    }
first_by P w id says event asked (Shut ending) e l h =
    let of = said says (reply_to w event) in
    let later = world_after w event in
    record {
      others = entries later (if is_leave event then [] else Leave id ∷ []);
      in_order = ap (λ (s : State). entries w (and_then id event s (applied later id of.says asked))) e;
      each = either (is_leave event);
    } where
      either : (b : Bool) → Each (λ x. P x.event) (entries (world_after w event) (if b then [] else Leave id ∷ []))
      either true = tt
      either false = (l, tt)

pub first_of_applied : (P : Event → Type 0) (w : World) (id : ℕ) (says : Says) (event : Event) (asked : List Event) → P (Leave id) → EachAsked P asked
    → First P w id says event asked
first_of_applied P w id says event asked l h = first_by P w id says event asked (said says (reply_to w event)).state refl l h

pub asked_as : (P Q : Event → Type 0) → ((e : Event) → P e → Q e) → (events : List Event) → EachAsked P events → EachAsked Q events
asked_as P Q f [] h = tt
asked_as P Q f (e ∷ events) h = (f e h.0, asked_as P Q f events h.1)

pub asked_joined : (P : Event → Type 0) (events more : List Event) → EachAsked P events → EachAsked P more → EachAsked P (events ++ more)
asked_joined P [] more h k = k
asked_joined P (e ∷ events) more h k = (h.0, asked_joined P events more h.1 k)

pub entries_each : (P : Event → Type 0) (w : World) (events : List Event) → EachAsked P events → Each (λ e. P e.event) (entries w events)
entries_each P w [] h = tt
entries_each P w (e ∷ events) h = (h.0, entries_each P (world_after w e) events h.1)

-- the events of this connection are of this client
pub idle_is_his : (id : ℕ) (event : Event) → IsIdle id event → client_in event ≡ Some id
idle_is_his id (Arrive peer) h = elim h [ ]
idle_is_his id (Source asked) h = elim h [ ]
idle_is_his id (Push him block) h = elim h [ ]
idle_is_his id (SourceEnd him) h = elim h [ ]
idle_is_his id (Listen asked) h = elim h [ ]
idle_is_his id (Command asked) h = elim h [ ]
idle_is_his id (Leave him) h = elim h [ ]
idle_is_his id (RelayUp mount shown) h = elim h [ ]
idle_is_his id (RelayDown him) h = elim h [ ]
idle_is_his id (Clock ms) h = elim h [ ]
idle_is_his id (Draw him room) h = ap (λ (n : ℕ). Some n) h
idle_is_his id (Title him text) h = ap (λ (n : ℕ). Some n) h

pub idle_asks_nothing : (id : ℕ) (event : Event) → IsIdle id event → AsksForMount event → ⊥
idle_asks_nothing id (Arrive peer) h a = elim h [ ]
idle_asks_nothing id (Source asked) h a = elim h [ ]
idle_asks_nothing id (Push him block) h a = elim h [ ]
idle_asks_nothing id (SourceEnd him) h a = elim h [ ]
idle_asks_nothing id (Listen asked) h a = elim h [ ]
idle_asks_nothing id (Command asked) h a = elim h [ ]
idle_asks_nothing id (Leave him) h a = elim h [ ]
idle_asks_nothing id (RelayUp mount shown) h a = elim h [ ]
idle_asks_nothing id (RelayDown him) h a = elim h [ ]
idle_asks_nothing id (Clock ms) h a = elim h [ ]
idle_asks_nothing id (Draw him room) h a = a
idle_asks_nothing id (Title him text) h a = a

pub idle_pushes_nothing : (id : ℕ) (event : Event) → IsIdle id event → PushesNothing event
idle_pushes_nothing id (Arrive peer) h = elim h [ ]
idle_pushes_nothing id (Source asked) h = elim h [ ]
idle_pushes_nothing id (Push him block) h = elim h [ ]
idle_pushes_nothing id (SourceEnd him) h = elim h [ ]
idle_pushes_nothing id (Listen asked) h = elim h [ ]
idle_pushes_nothing id (Command asked) h = elim h [ ]
idle_pushes_nothing id (Leave him) h = elim h [ ]
idle_pushes_nothing id (RelayUp mount shown) h = elim h [ ]
idle_pushes_nothing id (RelayDown him) h = elim h [ ]
idle_pushes_nothing id (Clock ms) h = elim h [ ]
idle_pushes_nothing id (Draw him room) h = refl
idle_pushes_nothing id (Title him text) h = refl

pub idle_is_behind : (id : ℕ) (event : Event) → IsIdle id event → IsBehindRequest id event
idle_is_behind id (Arrive peer) h = elim h [ ]
idle_is_behind id (Source asked) h = elim h [ ]
idle_is_behind id (Push him block) h = elim h [ ]
idle_is_behind id (SourceEnd him) h = elim h [ ]
idle_is_behind id (Listen asked) h = elim h [ ]
idle_is_behind id (Command asked) h = elim h [ ]
idle_is_behind id (Leave him) h = elim h [ ]
idle_is_behind id (RelayUp mount shown) h = elim h [ ]
idle_is_behind id (RelayDown him) h = elim h [ ]
idle_is_behind id (Clock ms) h = elim h [ ]
idle_is_behind id (Draw him room) h = h
idle_is_behind id (Title him text) h = h

pub behind_is_his : (id : ℕ) (event : Event) → IsBehindRequest id event → client_in event ≡ Some id
behind_is_his id (Arrive peer) h = elim h [ ]
behind_is_his id (Source asked) h = elim h [ ]
behind_is_his id (Listen asked) h = elim h [ ]
behind_is_his id (Command asked) h = elim h [ ]
behind_is_his id (RelayUp mount shown) h = elim h [ ]
behind_is_his id (RelayDown him) h = ap (λ (n : ℕ). Some n) h
behind_is_his id (Clock ms) h = elim h [ ]
behind_is_his id (Push him block) h = ap (λ (n : ℕ). Some n) h
behind_is_his id (SourceEnd him) h = ap (λ (n : ℕ). Some n) h
behind_is_his id (Title him text) h = ap (λ (n : ℕ). Some n) h
behind_is_his id (Draw him room) h = ap (λ (n : ℕ). Some n) h
behind_is_his id (Leave him) h = ap (λ (n : ℕ). Some n) h

-- it draws, sends titles or leaves
abbrev pub IsIdleOrLeave : ℕ → Event → Type 0
IsIdleOrLeave id event = IsIdle id event ⊎ (event ≡ Leave id)

pub idle_or_leaving_is_his : (id : ℕ) (event : Event) → IsIdleOrLeave id event → client_in event ≡ Some id
idle_or_leaving_is_his id event (inl h) = idle_is_his id event h
idle_or_leaving_is_his id event (inr e) = ap client_in e

pub client_owns : (id : ℕ) (peer : Peer) (others log : List Entry) → log ≡ arrival peer id ∷ others → Each (λ e. client_in e.event ≡ Some id) others
    → Each (IsOwn log) log
client_owns id peer others log e his =
    subst (λ (xs : List Entry). Each (IsOwn xs) xs) (sym e) (
      (λ him h. cc),
      each_as (λ x. client_in x.event ≡ Some id) (IsOwn (arrival peer id ∷ others))
          (λ x h him k. let same : id ≡ him = let both : Some id ≡ Some him = sym h ∙ k in cc in inl (ap (λ (n : ℕ). Arrived n) same)) others his,
    )

-- A client's events are exchanged.
module _ (web : WebAnswers) (w : World) (bytes : List ℕ) (log : List Entry) (given : List ℕ) (now : Conversation) (events : List Event) where
  abbrev pub x : WorldExchange
  x = exchanged w now.id now.says events

  abbrev pub new : List Entry
  new = entries w (applied w now.id now.says events)

  pub settles : (others : List Entry) → log ≡ arrival now.peer now.id ∷ others → Each (λ e. client_in e.event ≡ Some now.id) others → Each IsNotLast log
      → EachAsked (λ e. client_in e ≡ Some now.id) events
      → (x.exchange.state ≡ Running → Stage web bytes (log ++ new) (given ++ x.exchange.bytes) (saying_now now x.exchange.says))
      → Facts web bytes (log ++ new) (given ++ x.exchange.bytes)
      → IsSo web (Some (connection_unless (Some (Client (saying_now now x.exchange.says))) x.exchange.state)) bytes (log ++ new) (given ++ x.exchange.bytes)
  settles others arrived his goes asked stage facts = by_state x.exchange.state refl where
    all_his : Each (λ e. client_in e.event ≡ Some now.id) (others ++ new)
    all_his = each_joined (λ e. client_in e.event ≡ Some now.id) others new his
        (applied_each (λ e. client_in e ≡ Some now.id) w now.id now.says events refl asked)

    all : log ++ new ≡ arrival now.peer now.id ∷ (others ++ new)
    all = ap (λ (xs : List Entry). xs ++ new) arrived

    by_state : (state : State) → x.exchange.state ≡ state
        → IsSo web (Some (connection_unless (Some (Client (saying_now now x.exchange.says))) state)) bytes (log ++ new) (given ++ x.exchange.bytes)
    by_state Running e = record {
      others = others ++ new;
      arrived = all;
      his = all_his;
      goes_on = each_joined IsNotLast log new goes (none_last now.says new (goes_on w now.id now.says events e).goes);
      stage = stage e;
    }
    by_state (Shut ending) e = record { own = client_owns now.id now.peer (others ++ new) (log ++ new) all all_his; facts = facts }

  -- what is given is what is written of the replies still
  module _ (before : Conversation) (t : IsTold web before log given) (same : now.says ≡ before.says) where
    says_now : now.says ≡ said_all (asking web) (replies log)
    says_now = same ∙ t.says

    pub told_now : given ++ x.exchange.bytes ≡ told (asking web) (replies (log ++ new))
    told_now =
        ap (λ (xs : List ℕ). xs ++ x.exchange.bytes) t.is_told
        ∙ ap (λ (xs : List ℕ). told (asking web) (replies log) ++ xs) (applied_tell w now.id now.says events)
        ∙ ap (λ (s : Says). told (asking web) (replies log) ++ told s (replies new)) says_now
        ∙ sym (told_joined (asking web) (replies log) (replies new) t.goes)
        ∙ ap (λ (rs : List Reply). told (asking web) rs) (sym (replies_joined log new))

    pub still_told : x.exchange.state ≡ Running → IsTold web (saying_now now x.exchange.says) (log ++ new) (given ++ x.exchange.bytes)
    still_told run =
        let g = goes_on w now.id now.says events run in
        record {
          says = g.so ∙ ap (λ (s : Says). said_all s (replies new)) says_now ∙ sym (said_joined (asking web) (replies log) (replies new))
              ∙ ap (λ (rs : List Reply). said_all (asking web) rs) (sym (replies_joined log new));
          goes = subst (λ (rs : List Reply). IsOpen (asking web) rs) (sym (replies_joined log new))
              (open_joined (asking web) (replies log) (replies new) t.goes (subst (λ (s : Says). IsOpen s (replies new)) says_now g.goes));
          is_told = told_now;
        }

-- the same client, of other bytes and another log
pub get_with : (web : WebAnswers) (bytes bytes' : List ℕ) (log log' : List Entry) (given given' : List ℕ) (g : ByGet web bytes log given)
    → IsReading ShowsRequest bytes' (Ok (Whole g.request g.length)) → (behind : List Entry)
    → log' ≡ arrival g.peer g.id ∷ g.idle ++ record { event = asks_by_get web g.id g.request; reply = g.reply } ∷ behind
    → Each (IsIdleOrLeaving g.id) behind → IsOrderly g.id log' → given' ≡ told (asking web) (replies log') → ByGet web bytes' log' given'
get_with web bytes bytes' log log' given given' g reading behind in_order no_more orderly is_told = record {
  id = g.id;
  peer = g.peer;
  idle = g.idle;
  request = g.request;
  reply = g.reply;
  behind = behind;
  in_order = in_order;
  idles = g.idles;
  goes = g.goes;
  no_more = no_more;
  orderly = orderly;
  length = g.length;
  reading = reading;
  no_source = g.no_source;
  is_get = g.is_get;
  is_told = is_told;
}

abbrev pub feeds_with : (bytes bytes' : List ℕ) (log log' : List Entry) (f : Feeds bytes log) → IsReading ShowsRequest bytes' (Ok (Whole f.request f.length))
    → (behind : List Entry) → log' ≡ arrival f.peer f.id ∷ f.idle ++ record { event = asks_to_feed f.id f.request; reply = f.reply } ∷ behind
    → Each (IsNoRequest f.id) behind → IsOrderly f.id log' → (rest : List ℕ)
    → pushed (events_of behind) ++ rest ≡ data_of f.start (drop f.length bytes') → Feeds bytes' log'
feeds_with bytes bytes' log log' f reading behind in_order no_more orderly rest front = record {
  id = f.id;
  peer = f.peer;
  idle = f.idle;
  request = f.request;
  reply = f.reply;
  behind = behind;
  in_order = in_order;
  idles = f.idles;
  no_more = no_more;
  orderly = orderly;
  length = f.length;
  reading = reading;
  source = f.source;
  start = f.start;
  framed = f.framed;
  rest = rest;
  front = front;
}
