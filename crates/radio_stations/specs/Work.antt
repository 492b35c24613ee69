-- All that a worker or a relay's thread did, one after another, and the receipts of its pass.
use Rattle.std.specs.Prelude.{◌≡◌, ◌==◌, if◌then◌else◌, ℕ, Bool, true, false, List, [], ◌∷◌, ◌++◌, map, flat_map, Option, None, Some}
use Rattle.std.specs.List.{AllByRecursion}
use Rattle.radio_addr.specs.declared.peer.Peer.{Peer}
use Rattle.radio_answers.specs.declared.web_answers.WebAnswers.{WebAnswers}
use Rattle.radio_core.specs.Handing.{is_same_number}
use Rattle.radio_events.specs.declared.entry.Entry.{Entry}
use Rattle.radio_events.specs.declared.event.Event.TheVariants.{Arrive, Clock, Leave}
use Rattle.radio_events.specs.declared.reply.Reply.{Reply}
use Rattle.radio_events.specs.declared.reply.Reply.TheVariants.{Arrived}
use Rattle.radio_events.specs.Events.{entry}
use Rattle.radio_events.specs.Servers.{Chain, Steps}
use Rattle.radio_parts_station.specs.World.{World}
use Rattle.radio_book.specs.Receipts.{ReceiptOf, receipt_entry}
use Rattle.radio_locks.specs.Callers.{IsCalled}
use Rattle.radio_relay.specs.Applied.{PullCourse, PullSoFar}
use Rattle.radio_connections.specs.Admission.{IsTakenIn}
use Rattle.radio_connections.specs.Connections.{Connection}
use Rattle.radio_connections.specs.Course.{LetsNobodyIn}
use Rattle.radio_connections.specs.Serving.{ServesInTurn}
use Rattle.radio_serving.specs.Watching.{WatchedOf, WatchedSteps}
use Rattle.radio_headline.specs.Course.{Happening}
use Rattle.radio_headline.specs.Served.{HasLabelOrMoment}
use Rattle.radio_stations.specs.Turns.{IsServedThrough, IsNotLetIn}

-- what a worker has under a label: nothing yet, a connection, one that it has let go, or none since it closed it on arrival.
-- A relay's thread has the bytes of a master's answer in one pull
pub data UnderLabel : Type 0 where
  unknown : UnderLabel
  here : Connection → UnderLabel
  gone : Connection → UnderLabel
  closed : UnderLabel
  pulled : List ℕ → UnderLabel

-- under each label
abbrev pub Roll : Type 0
Roll = ℕ → UnderLabel

abbrev pub nobody_came : Roll
nobody_came label = unknown

abbrev pub enrolled : ℕ → UnderLabel → Roll → Roll
enrolled label place roll = λ other. if label == other then place else roll other

-- an event that was applied, with its reply, and the label of the connection or pull for which it was; a clock event has none
pub record Made : Type 0 where
  pub label : Option ℕ
  pub done : Entry

abbrev pub made_on : ℕ → Entry → Made
made_on label done = record { label = Some label; done = done }

abbrev pub moment : ℕ → Reply → Made
moment ms reply = record { label = None; done = entry (Clock ms) reply }

-- all of it, in its order
abbrev pub made_entries : List Made → List Entry
made_entries made = map (λ (m : Made). m.done) made

abbrev pub made_entry_on : ℕ → Made → List Entry
made_entry_on label m = if is_same_number label m.label then m.done ∷ [] else []

-- what was made under the label
abbrev pub entries_on : ℕ → List Made → List Entry
entries_on label made = flat_map (made_entry_on label) made

-- a connection that came so is served through these entries, if its client was let in, and is only answered if not
abbrev pub IsServedBy : WebAnswers → Peer → Reply → Connection → List Entry → Type 0
IsServedBy web peer (Arrived id) c applied = IsServedThrough web peer id c applied
IsServedBy web peer reply c applied = IsNotLetIn web reply c applied

-- by these settings of answers, these entries are the arrival of a connection, and then what was applied in its turns
pub record IsOfItsConnection (web : WebAnswers) (entries : List Entry) (c : Connection) : Type 0 where
  pub peer : Peer
  pub reply : Reply
  pub applied : List Entry
  pub in_order : entries ≡ entry (Arrive peer) reply ∷ applied
  pub served : IsServedBy web peer reply c applied

-- one pull of a relay, in which its master's answer gave these bytes, has these entries
pub record IsOfItsPull (given : List ℕ) (entries : List Entry) : Type 0 where
  pub mount : List ℕ
  pub pull : PullSoFar
  pub course : PullCourse mount pull
  pub same_given : pull.given ≡ given
  pub same_entries : pull.entries ≡ entries

-- These entries are those under a label: none if nobody came, or those of its connection. The leaving of its client follows them, if that was
-- let go. Only the arrival is there if the connection was closed as it came. Or they are those of a relay's pull.
abbrev pub IsUnder : WebAnswers → UnderLabel → List Entry → Type 0
IsUnder web unknown entries = entries ≡ []
IsUnder web (here c) entries = IsOfItsConnection web entries c
IsUnder web (gone c) entries =
    (before : List Entry) × (reply : Reply) × (c.status.has_left ≡ false) × (entries ≡ before ++ entry (Leave c.id) reply ∷ []) × IsOfItsConnection web before c
IsUnder web closed entries = (peer : Peer) × (reply : Reply) × LetsNobodyIn reply × (entries ≡ entry (Arrive peer) reply ∷ [])
IsUnder web (pulled given) entries = IsOfItsPull given entries

abbrev pub happening : Made → Happening
happening m = record { label = m.label; event = m.done.event }

-- What was made under each label is that of the connection or the pull there. What was made under no label are clock events. The
-- connections are answered by these settings.
pub record IsOfConnections (web : WebAnswers) (made : List Made) (roll : Roll) : Type 0 where
  pub labels : (label : ℕ) → IsUnder web (roll label) (entries_on label made)
  pub moments : AllByRecursion (λ m. HasLabelOrMoment (happening m)) made

module _ {S : Type 0} (steps : Steps S) (web : WebAnswers) where
  -- What a worker made over a server, by these settings of answers, and what it then has under each label. It applied the clock. It took in a
  -- connection under a new label, or closed it as it came. It served one of its connections in a turn. As it stopped, it let clients go that
  -- had not left. A relay's thread made a pull under a new label.
  pub data HasWorked (first : S) : List Made → S → Roll → Type 0 where
    nothing_yet : HasWorked first [] first nobody_came
    told : (made : List Made) (from to : S) (roll : Roll) → HasWorked first made from roll → (ms : ℕ) (reply : Reply) → steps from (Clock ms) reply to
        → HasWorked first (made ++ moment ms reply ∷ []) to roll
    took_in : (made : List Made) (from to : S) (roll : Roll) → HasWorked first made from roll → (label : ℕ) → roll label ≡ unknown
        → (peer : Peer) (reply : Reply) (c : Connection) → steps from (Arrive peer) reply to
        → IsTakenIn (record { web = web; peer = peer; reply = reply }) [] [] c
        → HasWorked first (made ++ made_on label (entry (Arrive peer) reply) ∷ []) to (enrolled label (here c) roll)
    turned_off : (made : List Made) (from to : S) (roll : Roll) → HasWorked first made from roll → (label : ℕ) → roll label ≡ unknown
        → (peer : Peer) (reply : Reply) → steps from (Arrive peer) reply to → LetsNobodyIn reply
        → HasWorked first (made ++ made_on label (entry (Arrive peer) reply) ∷ []) to (enrolled label closed roll)
    served : (made : List Made) (from to : S) (roll : Roll) → HasWorked first made from roll → (label : ℕ) (c c' : Connection) → roll label ≡ here c
        → (ms patience : ℕ) (news : Bool) (turn : ServesInTurn steps ms patience news from c to c')
        → HasWorked first (made ++ map (made_on label) turn.entries) to (enrolled label (here c') roll)
    let_go : (made : List Made) (from to : S) (roll : Roll) → HasWorked first made from roll → (label : ℕ) (c : Connection) → roll label ≡ here c
        → c.status.has_left ≡ false → (reply : Reply) → steps from (Leave c.id) reply to
        → HasWorked first (made ++ made_on label (entry (Leave c.id) reply) ∷ []) to (enrolled label (gone c) roll)
    pulled_in : (made : List Made) (from to : S) (roll : Roll) → HasWorked first made from roll → (label : ℕ) → roll label ≡ unknown
        → (mount : List ℕ) (pull : PullSoFar) → PullCourse mount pull → Chain steps from pull.entries to
        → HasWorked first (made ++ map (made_on label) pull.entries) to (enrolled label (pulled pull.given) roll)

  -- Whatever a worker or a relay's thread did, what it made is of the connections and pulls that it then has.
  abbrev pub WorkIsOfItsConnections : Type 0
  WorkIsOfItsConnections = (first last : S) (made : List Made) (roll : Roll) → HasWorked first made last roll → IsOfConnections web made roll

-- If a hall stores its entries, a pass gained the receipts of all that its worker or relay's thread made, in order, and no others.
abbrev pub PassesAreOfTheirWork : Type 0
PassesAreOfTheirWork = (opening : World) (web : WebAnswers) (first last : WatchedOf (List ReceiptOf)) (made : List Made) (roll : Roll)
    → HasWorked (WatchedSteps (IsCalled true opening)) web first made last roll
    → (receipts : List ReceiptOf) × (last.server ≡ first.server ++ receipts) × (map receipt_entry receipts ≡ made_entries made)
