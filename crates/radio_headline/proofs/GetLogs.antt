-- The log of a connection on which a GET was read.
use Rattle.std.proofs.Common.{◌≡◌, ◌⊎◌, inl, inr, ℕ, Bool, true, false, List, [], ◌∷◌, ◌++◌, Option, None, Some, refl, sym, ap, subst, ◌∙◌}
use Rattle.radio_headline.proofs.Words.{if◌then◌else◌, AllByRecursion, flat_map, Rule, Entry, Event, Arrive, Source, Push, SourceEnd, Title, Listen, Draw, Command, Leave, RelayUp, RelayDown, Clock, ListenRequest, Reply}
use Rattle.radio_headline.proofs.Words.{Arrived, Feeding, Seated, Drawn, Noted, Text, Deny, Finished, Stray, StreamHead, client_in, Call, is_same_number, world_after, World, RequestParts, asks_by_get, asks_to_hear}
use Rattle.radio_headline.proofs.Words.{gives_command, is_for_commands, path_in, asking, draw, said, AdmitNobody, draws_of, told, Happening, events_in, on, applied_entry, log_on, draws_to, WebAnswers}
use Rattle.radio_headline.proofs.Gathered.{IsOnIt, brought_to, gathered}
use Rattle.radio_headline.proofs.Logs.{replies, Each, each_as, each_joined}
use Rattle.radio_headline.proofs.AppliedLemmas.{IsLast, IsLeaving, IsOpen, IsOrderly, said_all}
use Rattle.radio_headline.proofs.RunLemmas.{IsIdling}
use Rattle.radio_headline.proofs.Connections.{arrival, AsksForMount, AsksNothing, ByGet, Feeds as IsFeeding, IsIdleOrLeaving, IsBehindRequest, IsNoRequest}
use Rattle.radio_headline.proofs.Connections.{Facts, HasAskedNothing, HasSentGet, IsSource, IsPulling}
use Rattle.radio_headline.proofs.ClientEvents.{idle_asks_nothing, idle_is_his}
use Rattle.radio_headline.proofs.Relays.RelayWords.{OwnRelay, relay_asks_not}
use Rattle.radio_headline.proofs.Partings.{none_there, parted}

pub idle_or_leaving_is_his : (id : ℕ) (e : Entry) → IsIdleOrLeaving id e → client_in e.event ≡ Some id
idle_or_leaving_is_his id e (inl h) = idle_is_his id e.event h
idle_or_leaving_is_his id e (inr h) = ap client_in h

pub get_is_his : (web : WebAnswers) (id : ℕ) (request : RequestParts) → client_in (asks_by_get web id request) ≡ Some id
get_is_his web id request = by_kind (is_for_commands (path_in request)) where
  by_kind : (b : Bool) → client_in (if b then gives_command web id request (path_in request) else asks_to_hear web id request (path_in request)) ≡ Some id
  by_kind true = refl
  by_kind false = refl

pub get_is_of : (web : WebAnswers) (id : ℕ) (request : RequestParts) {asked : ListenRequest} → asks_by_get web id request ≡ Listen asked → asked.id ≡ id
get_is_of web id request {asked} e = by_kind (is_for_commands (path_in request)) e where
  by_kind : (b : Bool) → (if b then gives_command web id request (path_in request) else asks_to_hear web id request (path_in request)) ≡ Listen asked → asked.id ≡ id
  by_kind true e = cc
  by_kind false e = let his : Some id ≡ Some asked.id = ap client_in e in cc

pub orderly_second : (id : ℕ) (log more : List Entry) → IsOrderly id (log ++ more) → IsOrderly id more
orderly_second id [] more h = h
orderly_second id (e ∷ log) more h = orderly_second id log more h.1

-- this event asks to listen to a mount, or gives a command
abbrev pub IsGetting : Event → Type 0
IsGetting (Listen asked) = Unit {0}
IsGetting (Command asked) = Unit {0}
IsGetting event = ⊥

abbrev pub GetsNot : Entry → Type 0
GetsNot e = IsGetting e.event → ⊥

listening_asks : (event : Event) → IsGetting event → AsksForMount event
listening_asks (Arrive peer) h = elim h [ ]
listening_asks (Source asked) h = elim h [ ]
listening_asks (Push him block) h = elim h [ ]
listening_asks (SourceEnd him) h = elim h [ ]
listening_asks (Title him text) h = elim h [ ]
listening_asks (Draw him room) h = elim h [ ]
listening_asks (Leave him) h = elim h [ ]
listening_asks (RelayUp mount shown) h = elim h [ ]
listening_asks (RelayDown him) h = elim h [ ]
listening_asks (Clock ms) h = elim h [ ]
listening_asks (Command asked) h = tt
listening_asks (Listen asked) h = tt

nothing_listened : (log : List Entry) → Each AsksNothing log → Each GetsNot log
nothing_listened log h = each_as AsksNothing GetsNot (λ e f l. f (listening_asks e.event l)) log h

not_behind : (id : ℕ) (event : Event) → IsBehindRequest id event → IsGetting event → ⊥
not_behind id (Arrive peer) h l = elim h [ ]
not_behind id (Source asked) h l = elim h [ ]
not_behind id (Listen asked) h l = elim h [ ]
not_behind id (Command asked) h l = elim h [ ]
not_behind id (RelayUp mount shown) h l = elim h [ ]
not_behind id (RelayDown him) h l = l
not_behind id (Clock ms) h l = elim h [ ]
not_behind id (Push him block) h l = l
not_behind id (SourceEnd him) h l = l
not_behind id (Title him text) h l = l
not_behind id (Draw him room) h l = l
not_behind id (Leave him) h l = l

pub idle_not : (id : ℕ) (e : Entry) → IsIdling id e → GetsNot e
idle_not id e h l = idle_asks_nothing id e.event h (listening_asks e.event l)

source_not : (bytes : List ℕ) (log : List Entry) → IsFeeding bytes log → Each GetsNot log
source_not bytes log f =
    subst (Each GetsNot) (sym f.in_order) (
      (λ l. l),
      each_joined GetsNot f.idle _ (each_as (IsIdling f.id) GetsNot (idle_not f.id) f.idle f.idles)
          ((λ l. l), each_as (IsNoRequest f.id) GetsNot (λ e h. not_behind f.id e.event h) f.behind f.no_more),
    )

-- a relay asks for no mount
relay_listens_not : (log : List Entry) → OwnRelay None log → Each GetsNot log
relay_listens_not log own = relay_asks_not IsGetting (λ mount shown a. a) (λ id block a. a) (λ id text a. a) (λ id room a. a) (λ id a. a) None log own

pub no_entry : (before behind : List Entry) (e : Entry) → [] ≡ before ++ e ∷ behind → ⊥
no_entry [] behind e h = cc
no_entry (x ∷ before) behind e h = cc

-- if a client asks to listen to a mount, or gives a command, a GET was read
module _ (web : WebAnswers) (bytes : List ℕ) (log : List Entry) (given : List ℕ) (before behind : List Entry) (e : Entry) (parts : log ≡ before ++ e ∷ behind)
    (listens : IsGetting e.event) where
  never : {A : Type 0} → Each GetsNot log → A
  never h = absurd (none_there IsGetting before behind e (subst (Each GetsNot) parts h) listens)

  pub by_get : Facts web bytes log given → ByGet web bytes log given
  by_get (HasAskedNothing h) = never (nothing_listened log h)
  by_get (HasSentGet g) = g
  by_get (IsSource f told) = never (source_not bytes log f)
  by_get (IsPulling q) = never (relay_listens_not log q.own)

pub idle_or_leaving_not : (id : ℕ) (e : Entry) → IsIdleOrLeaving id e → IsGetting e.event → ⊥
idle_or_leaving_not id e (inl h) l = idle_asks_nothing id e.event h (listening_asks e.event l)
idle_or_leaving_not id e (inr h) l = subst IsGetting h l

-- what was asked for was asked for by that GET
pub parted_at_get : (web : WebAnswers) (bytes : List ℕ) (log : List Entry) (given : List ℕ) (g : ByGet web bytes log given) (before behind : List Entry) (e : Entry)
    → log ≡ before ++ e ∷ behind → IsGetting e.event → e.event ≡ asks_by_get web g.id g.request
parted_at_get web bytes log given g before behind e parts l =
    ap (λ (x : Entry). x.event) (parted IsGetting before (arrival g.peer g.id ∷ g.idle) behind g.behind e _ (sym parts ∙ g.in_order) l
    ((λ k. k), each_as (IsIdling g.id) GetsNot (idle_not g.id) g.idle g.idles)
    (each_as (IsIdleOrLeaving g.id) GetsNot (idle_or_leaving_not g.id) g.behind g.no_more)).here

-- nothing was written while it waited
abbrev pub IsMute : Entry → Type 0
IsMute e = (e.reply ≡ Stray) ⊎ ((rule : Rule) × (e.reply ≡ Finished rule))

pub record Waited (web : WebAnswers) (idle : List Entry) : Type 0 where
  pub untold : told (asking web) (replies idle) ≡ []
  pub says : said_all (asking web) (replies idle) ≡ asking web

pub waited : (web : WebAnswers) (idle : List Entry) → IsOpen (asking web) (replies idle) → Each IsMute idle → Waited web idle
waited web [] goes mute = record { untold = refl; says = refl }
waited web (e ∷ idle) goes mute = elim mute.0 [
  | inl stray ↦
      let later = waited web idle (subst (λ (r : Reply). IsOpen (said (asking web) r).says (replies idle)) stray goes.1) mute.1 in
      record {
        untold = ap (λ (r : Reply). told (asking web) (r ∷ replies idle)) stray ∙ later.untold;
        says = ap (λ (r : Reply). said_all (asking web) (r ∷ replies idle)) stray ∙ later.says;
      }
  | inr (rule, finished) ↦
      let shut = ap (λ (r : Reply). (said (asking web) r).state) (sym finished) ∙ goes.0 in absurd (cc)
]

-- draws
abbrev pub calls_of : Entry → List Call
calls_of e = draws_of (e.reply ∷ [])

abbrev pub calls : List Entry → List Call
calls log = flat_map calls_of log

abbrev pub DrawsNothing : Entry → Type 0
DrawsNothing e = calls_of e ≡ []

pub no_calls : (log : List Entry) → Each DrawsNothing log → calls log ≡ []
no_calls [] h = refl
no_calls (e ∷ log) h = ap (λ (xs : List Call). xs ++ calls log) h.0 ∙ no_calls log h.1

pub mute_draws : (e : Entry) → IsMute e → DrawsNothing e
mute_draws e (inl stray) = ap (λ (r : Reply). draws_of (r ∷ [])) stray
mute_draws e (inr (rule, finished)) = ap (λ (r : Reply). draws_of (r ∷ [])) finished

-- a reply fits its event
pub record FitsEvent (event : Event) (reply : Reply) : Type 0 where
  pub feeding : reply ≡ Feeding → AsksForMount event
  pub seated : (interval : Option ℕ) (head : StreamHead) → reply ≡ Seated interval head → AsksForMount event
  pub drawn : (id : ℕ) → event ≡ Leave id → draws_of (reply ∷ []) ≡ []

abbrev pub EntryFits : Entry → Type 0
EntryFits e = FitsEvent e.event e.reply

leaving_draws : (id : ℕ) (log : List Entry) → Each EntryFits log → Each (IsLeaving id) log → Each DrawsNothing log
leaving_draws id [] fits h = tt
leaving_draws id (e ∷ log) fits h = (fits.0.drawn id h.0, leaving_draws id log fits.1 h.1)

pub orderly_draws : (id : ℕ) (log : List Entry) → IsOrderly id log → Each EntryFits log → draws_of (replies log) ≡ calls log
orderly_draws id [] o fits = refl
orderly_draws id (e ∷ log) o fits = by_reply (orderly_draws id log o.1 fits.1) e.reply refl where
  last : IsLast e.reply → [] ≡ calls log
  last l = sym (no_calls log (leaving_draws id log fits.1 (o.0 l)))

  by_reply : draws_of (replies log) ≡ calls log → (r : Reply) → e.reply ≡ r → draws_of (r ∷ replies log) ≡ draws_of (r ∷ []) ++ calls log
  by_reply later (Arrived him) h = later
  by_reply later Feeding h = later
  by_reply later (Seated interval head) h = later
  by_reply later (Drawn bytes title) h = ap (λ (xs : List Call). draw bytes title ∷ xs) later
  by_reply later Noted h = later
  by_reply later (Text text) h = last (subst IsLast (sym h) tt)
  by_reply later (Deny rule) h = last (subst IsLast (sym h) tt)
  by_reply later (Finished rule) h = last (subst IsLast (sym h) tt)
  by_reply later Stray h = later

abbrev AdmitsNot : Entry → Type 0
AdmitsNot e = (e.reply ≡ Feeding → ⊥) × ((interval : Option ℕ) (head : StreamHead) → e.reply ≡ Seated interval head → ⊥)

pub admit_nobody : (log : List Entry) → Each AdmitsNot log → AdmitNobody (replies log)
admit_nobody [] h = tt
admit_nobody (e ∷ log) h = by_reply (admit_nobody log h.1) e.reply refl where
  by_reply : AdmitNobody (replies log) → (r : Reply) → e.reply ≡ r → AdmitNobody (r ∷ replies log)
  by_reply later (Arrived him) d = later
  by_reply later Feeding d = h.0.0 d
  by_reply later (Seated interval head) d = h.0.1 interval head d
  by_reply later (Drawn bytes title) d = later
  by_reply later Noted d = later
  by_reply later (Text text) d = later
  by_reply later (Deny rule) d = later
  by_reply later (Finished rule) d = later
  by_reply later Stray d = later

pub none_admitted : (id : ℕ) (log : List Entry) → Each (IsIdleOrLeaving id) log → Each EntryFits log → Each AdmitsNot log
none_admitted id [] h fits = tt
none_admitted id (e ∷ log) h fits = (
  ((λ d. asks e (fits.0.feeding d) h.0), λ interval head d. asks e (fits.0.seated interval head d) h.0),
  none_admitted id log h.1 fits.1,
) where
  asks : (e : Entry) → AsksForMount e.event → IsIdleOrLeaving id e → ⊥
  asks e a (inl i) = idle_asks_nothing id e.event i a
  asks e a (inr l) = subst AsksForMount l a

abbrev pub IsHisOrDrawsNothing : ℕ → Entry → Type 0
IsHisOrDrawsNothing id e = (client_in e.event ≡ Some id) ⊎ DrawsNothing e

pub draws_gathered : (w : World) (past : List Happening) (label id : ℕ) → AllByRecursion (IsOnIt label id) past
    → Each (IsHisOrDrawsNothing id) (log_on w past label) → draws_to w (events_in past) id ≡ calls (log_on w past label)
draws_gathered w past label id on his = in_order w past ∙ gathered calls_of w past label id on his where
  in_order : (x : World) (hs : List Happening) → draws_to x (events_in hs) id ≡ brought_to calls_of x hs id
  in_order x [] = refl
  in_order x (h ∷ hs) =
      ap (λ (xs : List Call). (if is_same_number id (client_in h.event) then calls_of (applied_entry x h.event) else []) ++ xs) (in_order (world_after x h.event) hs)
