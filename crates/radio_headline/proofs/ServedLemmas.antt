-- The course of a connection that is served event by event: a client's, or a relay's.
use Rattle.std.proofs.Common.{◌≡◌, inr, ℕ, Bool, true, false, List, [], ◌∷◌, ◌++◌, None, Some, refl, sym, ap, subst, ◌∙◌}
use Rattle.radio_headline.proofs.Words.{if◌then◌else◌, AllByRecursion, concat, append-nil, Peer, blocks_of, Entry, Event, Arrive, Draw, Leave, RelayUp, Reply, Arrived, State, Running, Shut, client_in, ShowsRequest}
use Rattle.radio_headline.proofs.Words.{IsStableReading, HeadsLieWithin, World, Place, after, data_of, is_same_number, reply_to, world_after, shown_in_response, WebAnswers, PullCourse, PullSoFar, Says, asks_by_get}
use Rattle.radio_headline.proofs.Words.{asks_to_feed, asking, EventReading, IsHeard, said, told, while_open, Arrival, IsOver, HasAllApplied, LetsNobodyIn, standing_after_reply, fate_by, newcomer, arrives, turned_away}
use Rattle.radio_headline.proofs.Words.{hears, has_room, applies, is_cut, passes_over, leaves, Happening, applied_entry, entry_on, log_on, pushed}
use Rattle.radio_events.specs.Events.{entry as entry_of}
use Rattle.radio_connections.specs.declared.conn.Fate.{Fate}
use Rattle.radio_connections.specs.declared.conn.Fate.TheVariants.{Open, Ended, Closed, Cut}
use Rattle.radio_connections.specs.Course.{Course as ConnectionCourse, Standing}
use Rattle.radio_connections.specs.Course.{closes}
use Rattle.radio_headline.specs.Served.{HasCourse, HasHappened, HasLabelOrMoment, NothingWas, WasLetGo, WasPulled, WasServed, WasTurnedAway}
use Rattle.radio_headline.proofs.AppliedLemmas.{IsLeaving, IsNotLast, IsOrderly, closes_nothing, last_shuts, leaves_silently, orderly_joined}
use Rattle.radio_headline.proofs.ClientEvents.{client_owns, events_of_joined, feeds_with, get_with, pushed_joined}
use Rattle.radio_headline.proofs.Connections.{AsksNothing, ByGet, Facts, Feeds, HasAskedNothing, HasSentGet, IsClosed, IsIdleOrLeaving, IsNoRequest, IsPulling, IsSource, arrival, events_of}
use Rattle.radio_headline.proofs.Logs.{Each, each_first, each_joined, each_second, replies, replies_joined}
use Rattle.radio_headline.proofs.ReplyForms.{LeaveReply, leave_reply}
use Rattle.radio_headline.proofs.RunLemmas.{AllNowhere, IsMoment, IsOwn}
use Rattle.radio_headline.proofs.ServedHearing.{hears_goes}
use Rattle.radio_headline.proofs.ServedStages.{AtHead, Goes, applied_goes, room_goes, same_arrival}
use Rattle.radio_headline.proofs.Settling.{logged}

-- a leaving is replied to as a run does
abbrev pub LeavesSo : Entry → Type 0
LeavesSo e = (id : ℕ) → e.event ≡ Leave id → LeaveReply e.reply

leaves_so : (w : World) (event : Event) → LeavesSo (applied_entry w event)
leaves_so w event id e = subst (λ (x : Event). LeaveReply (reply_to w x)) (sym e) (leave_reply w id)

pub all_leave_so : (w : World) (course : List Happening) (label : ℕ) → Each LeavesSo (log_on w course label)
all_leave_so w [] label = tt
all_leave_so w (h ∷ course) label =
    each_joined LeavesSo (entry_on w h label) (log_on (world_after w h.event) course label) (here (is_same_number label h.label)) (all_leave_so (world_after w h.event) course label) where
      here : (b : Bool) → Each LeavesSo (if b then applied_entry w h.event ∷ [] else [])
      here true = (leaves_so w h.event, tt)
      here false = tt

-- nothing is written of it
told_leave : (says : Says) → says.closing ≡ None → (before : List Reply) (reply : Reply) → LeaveReply reply → told says (before ++ reply ∷ []) ≡ told says before
told_leave says none [] reply l = leaves_silently says reply none l
told_leave says none (x ∷ before) reply l =
    ap (λ (xs : List ℕ). (said says x).bytes ++ while_open (said says x).state xs) (told_leave (said says x).says (closes_nothing says x none) before reply l)

orderly_leave : (id : ℕ) (log : List Entry) (e : Entry) → IsLeaving id e → IsOrderly id log → IsOrderly id (log ++ e ∷ [])
orderly_leave id [] e l o = ((λ h. tt), tt)
orderly_leave id (x ∷ log) e l o = ((λ last. each_joined (IsLeaving id) log (e ∷ []) (o.0 last) (l, tt)), orderly_leave id log e l o.1)

module _ (settled : IsStableReading ShowsRequest) (within : HeadsLieWithin ShowsRequest) (joined : (bytes : List ℕ) → concat (blocks_of bytes) ≡ bytes)
    (places : (place : Place) (first second : List ℕ) → after place (first ++ second) ≡ after (after place first) second)
    (data_joined : (place : Place) (first second : List ℕ) → data_of place (first ++ second) ≡ data_of place first ++ data_of (after place first) second)
    (web : WebAnswers)
    (more_facts : (bytes more : List ℕ) (log : List Entry) (given : List ℕ) → Facts web bytes log given → Facts web (bytes ++ more) log given) where
  module _ (peer : Peer) (id : ℕ) where
    -- the client leaves, whose connection is in this state
    module _ (bytes : List ℕ) (log others : List Entry) (text : List ℕ) (arrived : log ≡ arrival peer id ∷ others) (orderly : IsOrderly id log) (reply : Reply)
        (l : LeaveReply reply) where
      abbrev left : List Entry
      left = entry_of (Leave id) reply ∷ []

      now_orderly : IsOrderly id (log ++ left)
      now_orderly = orderly_leave id log (entry_of (Leave id) reply) refl orderly

      get_left : ByGet web bytes log text → ByGet web bytes (log ++ left) text
      get_left g =
          let him = same_arrival web peer id log others g.id g.peer _ arrived g.in_order in
          get_with web bytes bytes log (log ++ left) text text g g.reading (g.behind ++ left)
          (ap (λ (xs : List Entry). xs ++ left) g.in_order ∙ logged (arrival g.peer g.id) g.idle (entry_of (asks_by_get web g.id g.request) g.reply ∷ g.behind) left)
          (each_joined (IsIdleOrLeaving g.id) g.behind left g.no_more (inr (ap (λ (n : ℕ). Leave n) (sym him)), tt))
          (subst (λ (n : ℕ). IsOrderly n (log ++ left)) (sym him) now_orderly)
          (g.is_told ∙ sym (told_leave (asking web) refl (replies log) reply l) ∙ ap (told (asking web)) (sym (replies_joined log left)))

      abbrev source_left : Feeds bytes log → Feeds bytes (log ++ left)
      source_left f =
          let him = same_arrival web peer id log others f.id f.peer _ arrived f.in_order in
          feeds_with bytes bytes log (log ++ left) f f.reading (f.behind ++ left)
          (ap (λ (xs : List Entry). xs ++ left) f.in_order ∙ logged (arrival f.peer f.id) f.idle (entry_of (asks_to_feed f.id f.request) f.reply ∷ f.behind) left)
          (each_joined (IsNoRequest f.id) f.behind left f.no_more (sym him, tt))
          (subst (λ (n : ℕ). IsOrderly n (log ++ left)) (sym him) now_orderly)
          f.rest
          (ap (λ (xs : List ℕ). xs ++ f.rest)
          (ap pushed (events_of_joined f.behind left) ∙ pushed_joined (events_of f.behind) (Leave id ∷ []) ∙ append-nil (pushed (events_of f.behind)))
          ∙ f.front)

      pub facts_left : Facts web bytes log text → Facts web bytes (log ++ left) text
      facts_left (HasAskedNothing h) = HasAskedNothing (each_joined AsksNothing log left h ((λ a. a), tt))
      facts_left (HasSentGet g) = HasSentGet (get_left g)
      facts_left (IsSource f greeted) = IsSource (source_left f) greeted
      facts_left (IsPulling p) =
          let up = entry_of (RelayUp p.mount (shown_in_response p.head)) p.reply in
          let both : arrival peer id ∷ others ≡ up ∷ p.behind = sym arrived ∙ p.in_order in
          let first : arrival peer id ≡ up = cc in
          let event : Arrive peer ≡ RelayUp p.mount (shown_in_response p.head) = ap (λ (e : Entry). e.event) first in
          absurd (cc)

    -- what is known of its log
    pub record Known (bytes : List ℕ) (log : List Entry) (text : List ℕ) : Type 0 where
      pub others : List Entry
      pub arrived : log ≡ arrival peer id ∷ others
      pub his : Each (λ e. client_in e.event ≡ Some id) others
      pub orderly : IsOrderly id log
      pub facts : Facts web bytes log text

    -- the client leaves
    left_known : (bytes : List ℕ) (log : List Entry) (text : List ℕ) → Known bytes log text → (reply : Reply) → LeaveReply reply
        → Known bytes (log ++ entry_of (Leave id) reply ∷ []) text
    left_known bytes log text k reply l =
        let left = entry_of (Leave id) reply ∷ [] in
        record {
          others = k.others ++ left;
          arrived = ap (λ (xs : List Entry). xs ++ left) k.arrived;
          his = each_joined (λ e. client_in e.event ≡ Some id) k.others left k.his (refl, tt);
          orderly = orderly_leave id log (entry_of (Leave id) reply) refl k.orderly;
          facts = facts_left bytes log k.others text k.arrived k.orderly reply l k.facts;
        }

    -- more bytes came
    more_known : (bytes more : List ℕ) (log : List Entry) (text : List ℕ) → Known bytes log text → Known (bytes ++ more) log text
    more_known bytes more log text k =
        record { others = k.others; arrived = k.arrived; his = k.his; orderly = k.orderly; facts = more_facts bytes more log text k.facts }

    closed_known : (bytes : List ℕ) (log : List Entry) (text : List ℕ) → Known bytes log text → IsClosed web bytes log text
    closed_known bytes log text k = record { own = client_owns id peer k.others log k.arrived k.his; facts = k.facts }

    -- its state as long as it goes on
    record Going (s : Standing) : Type 0 where
      pub same : s.session.id ≡ id
      pub not_last : Each IsNotLast s.entries
      pub goes : Goes web peer id s

    -- the state of its course
    record Came (s : Standing) : Type 0 where
      pub known : Known s.given s.entries s.text
      pub going : s.fate ≡ Open → Going s

    newly : Came (newcomer web peer id)
    newly = record {
      known = record {
        others = [];
        arrived = refl;
        his = tt;
        orderly = ((λ h. tt), tt);
        facts = HasAskedNothing ((λ a. a), tt);
      };
      going = λ goes. record {
        same = refl;
        not_last = ((λ h. h), tt);
        goes = AtHead (record { idle = []; arrived = refl; idles = tt }) refl refl (record { says = refl; goes = (refl, tt); is_told = refl }) tt;
      };
    }

    -- it goes on no more
    over : (s : Standing) → Came s → (more : List ℕ) (pending : List Event) (fate : Fate) → (fate ≡ Open → ⊥)
        → Came (record s { given = s.given ++ more; pending = pending; fate = fate })
    over s c more pending fate ends = record { known = more_known s.given more s.entries s.text c.known; going = λ goes. absurd (ends goes) }

    with_none : (s : Standing) (fate : Fate) → Came (record s { given = s.given ++ []; pending = s.pending; fate = fate }) → Came (record s { fate = fate })
    with_none s fate c = subst (λ (xs : List ℕ). Came (record s { given = xs; fate = fate })) (append-nil s.given) c

    hears_on : (s : Standing) → Came s → HasAllApplied s → (bytes : List ℕ) (heard : EventReading) → IsHeard s.session bytes heard
        → Came (record s { given = s.given ++ bytes; session = heard.conversation; pending = heard.events })
    hears_on s c quiet bytes heard is =
        let g = c.going quiet.0 in
        let next = hears_goes settled within joined places data_joined web peer id s g.same bytes quiet heard is g.goes in
        record {
          known = more_known s.given bytes s.entries s.text c.known;
          going = λ goes. record { same = next.1; not_last = g.not_last; goes = next.0 };
        }

    room_on : (s : Standing) → Came s → HasAllApplied s → (room : ℕ) → Came (record s { pending = Draw id room ∷ [] })
    room_on s c quiet room = record {
      known = c.known;
      going = λ goes. let g = c.going goes in record { same = g.same; not_last = g.not_last; goes = room_goes web peer id s room quiet.1 g.goes };
    }

    running : (state : State) → fate_by state ≡ Open → state ≡ Running
    running Running e = refl
    running (Shut ending) e = absurd (cc)

    applies_on : (s : Standing) → Came s → s.fate ≡ Open → (event : Event) (later : List Event) → s.pending ≡ event ∷ later → (reply : Reply)
        → Came (standing_after_reply s event later reply)
    applies_on s c runs event later some reply =
        let one = entry_of event reply in
        let g = c.going runs in
        let orderly = orderly_joined id s.entries (one ∷ []) g.not_last ((λ h. tt), tt) in
        let a = applied_goes web peer id s event later some reply c.known.others c.known.arrived g.not_last orderly g.goes in
        record {
          known = record {
            others = c.known.others ++ one ∷ [];
            arrived = ap (λ (xs : List Entry). xs ++ one ∷ []) c.known.arrived;
            his = each_joined (λ e. client_in e.event ≡ Some id) c.known.others (one ∷ []) c.known.his (a.his, tt);
            orderly = orderly;
            facts = a.facts;
          };
          going = λ goes.
              let run = running (said s.session.says reply).state goes in
              record {
                same = g.same;
                not_last = each_joined IsNotLast s.entries (one ∷ []) g.not_last (last_shuts s.session.says reply run, tt);
                goes = a.goes run;
              };
        }

    leaves_on : (s : Standing) → Came s → IsOver s.fate → (reply : Reply) → LeaveReply reply
        → Came (record s { entries = s.entries ++ entry_of (Leave id) reply ∷ []; has_left = true })
    leaves_on s c ends reply l = record {
      known = left_known s.given s.entries s.text c.known reply l;
      going = λ goes. absurd (subst IsOver goes ends);
    }

  -- whatever happens on it
  came : (arrival : Arrival) (id : ℕ) → arrival.reply ≡ Arrived id → arrival.web ≡ web → (s : Standing) → ConnectionCourse arrival id s → Each LeavesSo s.entries
      → Came arrival.peer id s
  came arrival id let_in answers s (arrives same) so =
      subst (λ (w : WebAnswers). Came arrival.peer id (newcomer w arrival.peer id)) (sym answers) (newly arrival.peer id)
  came arrival id let_in answers s (turned_away nobody) so = absurd (subst LetsNobodyIn let_in nobody)
  came arrival id let_in answers s (hears before course quiet bytes heard is) so =
      hears_on arrival.peer id before (came arrival id let_in answers before course so) quiet bytes heard is
  came arrival id let_in answers s (has_room before course quiet room) so =
      room_on arrival.peer id before (came arrival id let_in answers before course so) quiet room
  came arrival id let_in answers s (applies before course runs event later some reply) so =
      applies_on arrival.peer id before (came arrival id let_in answers before course (each_first LeavesSo before.entries (entry_of event reply ∷ []) so))
      runs event later some reply
  came arrival id let_in answers s (closes before course goes none) so =
      with_none arrival.peer id before Closed (over arrival.peer id before (came arrival id let_in answers before course so) [] before.pending Closed (λ e. cc))
  came arrival id let_in answers s (is_cut before course unheard) so =
      over arrival.peer id before (came arrival id let_in answers before course so) unheard [] Cut (λ e. cc)
  came arrival id let_in answers s (passes_over before course ended bytes) so =
      over arrival.peer id before (came arrival id let_in answers before course so) bytes before.pending before.fate
      (λ e. absurd (let both : Ended ≡ Open = sym ended ∙ e in cc))
  came arrival id let_in answers s (leaves before course ends here reply) so =
      leaves_on arrival.peer id before
      (came arrival id let_in answers before course (each_first LeavesSo before.entries (entry_of (Leave id) reply ∷ []) so)) ends reply
      ((each_second LeavesSo before.entries (entry_of (Leave id) reply ∷ []) so).0 id refl)

  known_by : (id : ℕ) (bytes : List ℕ) (entries : List Entry) (text : List ℕ) (h : HasCourse web id bytes entries text) → Each LeavesSo entries
      → Known h.arrival.peer id bytes entries text
  known_by id bytes entries text h so =
      subst (λ (xs : List ℕ). Known h.arrival.peer id bytes entries xs) h.same_text
      (subst (λ (es : List Entry). Known h.arrival.peer id bytes es h.standing.text) h.same_entries
      (subst (λ (bs : List ℕ). Known h.arrival.peer id bs h.standing.entries h.standing.text) h.same_given
      (came h.arrival id h.let_in h.answers h.standing h.course (subst (Each LeavesSo) (sym h.same_entries) so)).known))

  pub closed_of : ((mount : List ℕ) (pull : PullSoFar) → PullCourse mount pull → (text : List ℕ) → IsClosed web pull.given pull.entries text)
      → (bytes : List ℕ) (entries : List Entry) (text : List ℕ) → Each LeavesSo entries → HasHappened web bytes entries text → IsClosed web bytes entries text
  closed_of pulls bytes entries text so (NothingWas none) = record {
    own = subst (λ (xs : List Entry). Each (IsOwn xs) xs) (sym none) tt;
    facts = HasAskedNothing (subst (Each AsksNothing) (sym none) tt);
  }
  closed_of pulls bytes entries text so (WasTurnedAway peer reply nobody e) = record {
    own = subst (λ (xs : List Entry). Each (IsOwn xs) xs) (sym e) ((λ him h. cc), tt);
    facts = HasAskedNothing (subst (Each AsksNothing) (sym e) ((λ a. a), tt));
  }
  closed_of pulls bytes entries text so (WasServed id h) = closed_known h.arrival.peer id bytes entries text (known_by id bytes entries text h so)
  closed_of pulls bytes entries text so (WasLetGo id made reply h e) =
      let left = entry_of (Leave id) reply ∷ [] in
      let both = subst (Each LeavesSo) e so in
      subst (λ (es : List Entry). IsClosed web bytes es text) (sym e)
      (closed_known h.arrival.peer id bytes (made ++ left) text
      (left_known h.arrival.peer id bytes made text (known_by id bytes made text h (each_first LeavesSo made left both)) reply
      ((each_second LeavesSo made left both).0 id refl)))
  closed_of pulls bytes entries text so (WasPulled mount pull course same_given same_entries none) =
      subst (λ (bs : List ℕ). IsClosed web bs entries text) same_given
      (subst (λ (es : List Entry). IsClosed web pull.given es text) same_entries (pulls mount pull course text))

-- an event on no connection is a clock's
pub nowhere_told : (course : List Happening) → AllByRecursion HasLabelOrMoment course → AllNowhere (λ h. IsMoment h.event) course
nowhere_told [] told = tt
nowhere_told (h ∷ course) told = ((λ none. let moment = told.0 none in subst IsMoment (sym moment.1) tt), nowhere_told course told.1)
