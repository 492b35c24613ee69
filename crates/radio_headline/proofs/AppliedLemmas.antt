-- The applied events are those that lead on, and what is written is what is written of the replies to them.
use Rattle.std.proofs.Common.{◌≡◌, ◌==◌, ℕ, Bool, true, false, List, [], ◌∷◌, ◌++◌, Option, None, Some, refl, sym, ap, ◌∙◌, append_assoc}
use Rattle.radio_headline.proofs.Words.{if◌then◌else◌, option_map, append-nil, Entry, Event, Leave, Reply, Arrived, Feeding, Seated, Drawn, Noted, Text, Deny, Finished, Stray, world_after_all, reply_to, world_after}
use Rattle.radio_headline.proofs.Words.{World, Says, State, Running, Shut, WorldExchange, exchanged, then_exchanged, is_leave, Closing, Said, counted_down, ends, last_ending, last_text, noted, one_less, said, tells}
use Rattle.radio_headline.proofs.Words.{told, while_open, and_then, applied}
use Rattle.radio_headline.proofs.Logs.{entries, replies, Each}
use Rattle.radio_headline.proofs.ReplyForms.{LeaveReply, WasNotThere, HadFinished, IsNoted}

-- they lead on
left_by : (w : World) (id : ℕ) (event : Event) (leaves : Bool)
    → (if leaves then world_after w event else world_after (world_after w event) (Leave id))
    ≡ world_after_all (world_after w event) (if leaves then [] else Leave id ∷ [])
left_by w id event true = refl
left_by w id event false = refl

then_leads : (w : World) (id : ℕ) (event : Event) (told : Said) (state : State) (others : WorldExchange) (rest : List Event)
    → others.world ≡ world_after_all (world_after w event) rest
    → (then_exchanged (world_after w event) id event told state others).world ≡ world_after_all w (and_then id event state rest)
then_leads w id event told Running others rest e = e
then_leads w id event told (Shut ending) others rest e = left_by w id event (is_leave event)

pub applied_lead : (w : World) (id : ℕ) (says : Says) (asked : List Event)
    → (exchanged w id says asked).world ≡ world_after_all w (applied w id says asked)
applied_lead w id says [] = refl
applied_lead w id says (event ∷ asked) =
    let told = said says (reply_to w event) in
    then_leads w id event told told.state (exchanged (world_after w event) id told.says asked) (applied (world_after w event) id told.says asked)
    (applied_lead (world_after w event) id told.says asked)

-- what is written is written of the replies to them
then_told : (w : World) (id : ℕ) (event : Event) (of : Said) (state : State) (others : WorldExchange) (rest : List Event)
    → others.exchange.bytes ≡ told of.says (replies (entries (world_after w event) rest))
    → (then_exchanged (world_after w event) id event of state others).exchange.bytes
    ≡ of.bytes ++ while_open state (told of.says (replies (entries (world_after w event) rest)))
then_told w id event of Running others rest e = ap (λ (xs : List ℕ). of.bytes ++ xs) e
then_told w id event of (Shut ending) others rest e = sym (append-nil of.bytes)

told_so : (w : World) (id : ℕ) (event : Event) (says : Says) (state : State) (rest : List Event) → (said says (reply_to w event)).state ≡ state
    → told says (replies (entries w (and_then id event state rest)))
    ≡ (said says (reply_to w event)).bytes ++ while_open state (told (said says (reply_to w event)).says (replies (entries (world_after w event) rest)))
told_so w id event says Running rest e =
    let of = said says (reply_to w event) in
    ap (λ (s : State). of.bytes ++ while_open s (told of.says (replies (entries (world_after w event) rest)))) e
told_so w id event says (Shut ending) rest e =
    let of = said says (reply_to w event) in
    ap (λ (s : State). of.bytes ++ while_open s (told of.says (replies (entries (world_after w event) (if is_leave event then [] else Leave id ∷ []))))) e

pub applied_tell : (w : World) (id : ℕ) (says : Says) (asked : List Event)
    → (exchanged w id says asked).exchange.bytes ≡ told says (replies (entries w (applied w id says asked)))
applied_tell w id says [] = refl
applied_tell w id says (event ∷ asked) =
    let of = said says (reply_to w event) in
    let rest = applied (world_after w event) id of.says asked in
    then_told w id event of of.state (exchanged (world_after w event) id of.says asked) rest (applied_tell (world_after w event) id of.says asked)
    ∙ sym (told_so w id event says of.state rest refl)

-- how replies are written after some others
abbrev pub said_all : Says → List Reply → Says
said_all says [] = says
said_all says (reply ∷ later) = said_all (said says reply).says later

-- writing a reply changes nothing of what the settings say
noted_web : (says : Says) (closing : Option Closing) → (noted says closing).says.web ≡ says.web
noted_web says None = refl
noted_web says (Some closing) = by_count (closing.awaits == 0) where
  by_count : (b : Bool) → (if b then ends (last_text says.web says.greeting closing.word) says (last_ending closing.word) else tells [] (counted_down says)).says.web ≡ says.web
  by_count true = refl
  by_count false = refl

pub said_web : (says : Says) (reply : Reply) → (said says reply).says.web ≡ says.web
said_web says (Arrived id) = refl
said_web says Feeding = refl
said_web says (Seated interval head) = refl
said_web says (Drawn bytes title) = refl
said_web says Noted = noted_web says says.closing
said_web says (Text text) = refl
said_web says (Deny rule) = refl
said_web says (Finished rule) = refl
said_web says Stray = refl

pub web_stays : (says : Says) (told_so_far : List Reply) → (said_all says told_so_far).web ≡ says.web
web_stays says [] = refl
web_stays says (reply ∷ later) = web_stays (said says reply).says later ∙ said_web says reply

-- the connection goes on after them
abbrev pub IsOpen : Says → List Reply → Type 0
IsOpen says [] = Unit {0}
IsOpen says (reply ∷ later) = ((said says reply).state ≡ Running) × IsOpen (said says reply).says later

pub told_joined : (says : Says) (before more : List Reply) → IsOpen says before
    → told says (before ++ more) ≡ told says before ++ told (said_all says before) more
told_joined says [] more goes = refl
told_joined says (reply ∷ before) more goes =
    let of = said says reply in
    ap (λ (s : State). of.bytes ++ while_open s (told of.says (before ++ more))) goes.0
    ∙ ap (λ (xs : List ℕ). of.bytes ++ xs) (told_joined of.says before more goes.1)
    ∙ sym (append_assoc of.bytes (told of.says before) (told (said_all of.says before) more))
    ∙ ap (λ (s : State). (of.bytes ++ while_open s (told of.says before)) ++ told (said_all of.says before) more) (sym goes.0)

pub said_joined : (says : Says) (before more : List Reply) → said_all says (before ++ more) ≡ said_all (said_all says before) more
said_joined says [] more = refl
said_joined says (reply ∷ before) more = said_joined (said says reply).says before more

pub open_joined : (says : Says) (before more : List Reply) → IsOpen says before → IsOpen (said_all says before) more → IsOpen says (before ++ more)
open_joined says [] more h k = k
open_joined says (reply ∷ before) more h k = (h.0, open_joined (said says reply).says before more h.1 k)

-- if the exchange goes on, so do the replies
pub record GoesOn (w : World) (id : ℕ) (says : Says) (asked : List Event) : Type 0 where
  pub goes : IsOpen says (replies (entries w (applied w id says asked)))
  pub so : (exchanged w id says asked).exchange.says ≡ said_all says (replies (entries w (applied w id says asked)))
  pub all : applied w id says asked ≡ asked

module _ (w : World) (id : ℕ) (event : Event) (says : Says) (others : WorldExchange) (rest asked : List Event) where
  then_goes_on : (state : State) → (said says (reply_to w event)).state ≡ state
      → (then_exchanged (world_after w event) id event (said says (reply_to w event)) state others).exchange.state ≡ Running
      → (others.exchange.state ≡ Running → IsOpen (said says (reply_to w event)).says (replies (entries (world_after w event) rest)))
      → IsOpen says (replies (entries w (and_then id event state rest)))
  then_goes_on Running e run goes = (e, goes run)
  then_goes_on (Shut ending) e run goes = cc

  then_so : (state : State) → (said says (reply_to w event)).state ≡ state
      → (then_exchanged (world_after w event) id event (said says (reply_to w event)) state others).exchange.state ≡ Running
      → (others.exchange.state ≡ Running → others.exchange.says ≡ said_all (said says (reply_to w event)).says (replies (entries (world_after w event) rest)))
      → (then_exchanged (world_after w event) id event (said says (reply_to w event)) state others).exchange.says
      ≡ said_all says (replies (entries w (and_then id event state rest)))
  then_so Running e run so = so run
  then_so (Shut ending) e run so = cc

  then_all : (state : State) → (then_exchanged (world_after w event) id event (said says (reply_to w event)) state others).exchange.state ≡ Running
      → (others.exchange.state ≡ Running → rest ≡ asked) → and_then id event state rest ≡ event ∷ asked
  then_all Running run all = ap (λ (xs : List Event). event ∷ xs) (all run)
  then_all (Shut ending) run all = cc

pub goes_on : (w : World) (id : ℕ) (says : Says) (asked : List Event) → (exchanged w id says asked).exchange.state ≡ Running → GoesOn w id says asked
goes_on w id says [] run = record { goes = tt; so = refl; all = refl }
goes_on w id says (event ∷ asked) run =
    let of = said says (reply_to w event) in
    let later = world_after w event in
    let others = exchanged later id of.says asked in
    let rest = applied later id of.says asked in
    record {
      goes = then_goes_on w id event says others rest asked of.state refl run (λ r. (goes_on later id of.says asked r).goes);
      so = then_so w id event says others rest asked of.state refl run (λ r. (goes_on later id of.says asked r).so);
      all = then_all w id event says others rest asked of.state run (λ r. (goes_on later id of.says asked r).all);
    }

-- an answer, a denial and the end by a rule are the last reply
abbrev pub IsLast : Reply → Type 0
IsLast (Text text) = Unit {0}
IsLast (Deny rule) = Unit {0}
IsLast (Finished rule) = Unit {0}
IsLast reply = ⊥

abbrev pub IsNotLast : Entry → Type 0
IsNotLast e = IsLast e.reply → ⊥

pub last_shuts : (says : Says) (reply : Reply) → (said says reply).state ≡ Running → IsLast reply → ⊥
last_shuts says (Arrived id) e h = h
last_shuts says Feeding e h = h
last_shuts says (Seated interval head) e h = h
last_shuts says (Drawn bytes title) e h = h
last_shuts says Noted e h = h
last_shuts says (Text text) e h = cc
last_shuts says (Deny rule) e h = cc
last_shuts says (Finished rule) e h = cc
last_shuts says Stray e h = h

pub none_last : (says : Says) (log : List Entry) → IsOpen says (replies log) → Each IsNotLast log
none_last says [] goes = tt
none_last says (e ∷ log) goes = (last_shuts says e.reply goes.0, none_last (said says e.reply).says log goes.1)

-- this one is of a leaving client
abbrev pub IsLeaving : ℕ → Entry → Type 0
IsLeaving id e = e.event ≡ Leave id

-- after its last reply a client only leaves
abbrev pub IsOrderly : ℕ → List Entry → Type 0
IsOrderly id [] = Unit {0}
IsOrderly id (e ∷ log) = (IsLast e.reply → Each (IsLeaving id) log) × IsOrderly id log

leaving : (w : World) (id : ℕ) (leaves : Bool) → Each (IsLeaving id) (entries w (if leaves then [] else Leave id ∷ []))
leaving w id true = tt
leaving w id false = (refl, tt)

leaving_orderly : (w : World) (id : ℕ) (leaves : Bool) → IsOrderly id (entries w (if leaves then [] else Leave id ∷ []))
leaving_orderly w id true = tt
leaving_orderly w id false = ((λ h. tt), tt)

then_orderly : (w : World) (id : ℕ) (event : Event) (says : Says) (state : State) (rest : List Event) → (said says (reply_to w event)).state ≡ state
    → IsOrderly id (entries (world_after w event) rest) → IsOrderly id (entries w (and_then id event state rest))
then_orderly w id event says Running rest e others = ((λ h. absurd (last_shuts says (reply_to w event) e h)), others)
then_orderly w id event says (Shut ending) rest e others =
    ((λ h. leaving (world_after w event) id (is_leave event)), leaving_orderly (world_after w event) id (is_leave event))

pub applied_orderly : (w : World) (id : ℕ) (says : Says) (asked : List Event) → IsOrderly id (entries w (applied w id says asked))
applied_orderly w id says [] = tt
applied_orderly w id says (event ∷ asked) =
    let of = said says (reply_to w event) in
    then_orderly w id event says of.state (applied (world_after w event) id of.says asked) refl (applied_orderly (world_after w event) id of.says asked)

pub orderly_joined : (id : ℕ) (log more : List Entry) → Each IsNotLast log → IsOrderly id more → IsOrderly id (log ++ more)
orderly_joined id [] more h k = k
orderly_joined id (e ∷ log) more h k = ((λ last. absurd (h.0 last)), orderly_joined id log more h.1 k)

-- what holds of each that is asked, and of leaving, holds of each that is applied
then_each : (P : Event → Type 0) (w : World) (id : ℕ) (event : Event) (state : State) (rest : List Event) → P event → P (Leave id)
    → Each (λ e. P e.event) (entries (world_after w event) rest) → Each (λ e. P e.event) (entries w (and_then id event state rest))
then_each P w id event Running rest p l others = (p, others)
then_each P w id event (Shut ending) rest p l others = (p, either (is_leave event)) where
  either : (b : Bool) → Each (λ e. P e.event) (entries (world_after w event) (if b then [] else Leave id ∷ []))
  either true = tt
  either false = (l, tt)

abbrev pub EachAsked : (Event → Type 0) → List Event → Type 0
EachAsked P [] = Unit {0}
EachAsked P (event ∷ events) = P event × EachAsked P events

pub applied_each : (P : Event → Type 0) (w : World) (id : ℕ) (says : Says) (asked : List Event) → P (Leave id) → EachAsked P asked
    → Each (λ e. P e.event) (entries w (applied w id says asked))
applied_each P w id says [] l h = tt
applied_each P w id says (event ∷ asked) l h =
    let of = said says (reply_to w event) in
    then_each P w id event of.state (applied (world_after w event) id of.says asked) h.0 l
    (applied_each P (world_after w event) id of.says asked l h.1)

-- if no last word was to be written, none is
counted_none : (says : Says) → says.closing ≡ None → option_map one_less says.closing ≡ None
counted_none says e = ap (option_map one_less) e

noted_none : (says : Says) (closing : Option Closing) → closing ≡ None → says.closing ≡ None → (noted says closing).says.closing ≡ None
noted_none says None e h = h
noted_none says (Some closing) e h = cc

pub closes_nothing : (says : Says) (reply : Reply) → says.closing ≡ None → (said says reply).says.closing ≡ None
closes_nothing says (Arrived id) e = counted_none says e
closes_nothing says Feeding e = counted_none says e
closes_nothing says (Seated interval head) e = counted_none says e
closes_nothing says (Drawn bytes title) e = counted_none says e
closes_nothing says Noted e = noted_none says says.closing e e
closes_nothing says (Text text) e = e
closes_nothing says (Deny rule) e = e
closes_nothing says (Finished rule) e = e
closes_nothing says Stray e = counted_none says e

pub all_close_nothing : (says : Says) (before : List Reply) → says.closing ≡ None → (said_all says before).closing ≡ None
all_close_nothing says [] e = e
all_close_nothing says (reply ∷ before) e = all_close_nothing (said says reply).says before (closes_nothing says reply e)

noted_silently : (says : Says) (closing : Option Closing) → closing ≡ None → (noted says closing).bytes ≡ []
noted_silently says None e = refl
noted_silently says (Some closing) e = cc

pub nothing_later : (state : State) → while_open state [] ≡ []
nothing_later Running = refl
nothing_later (Shut ending) = refl

-- a client that leaves gets nothing then
pub leaves_silently : (says : Says) (reply : Reply) → says.closing ≡ None → LeaveReply reply → told says (reply ∷ []) ≡ []
leaves_silently says (Arrived id) e h = elim h [ ]
leaves_silently says Feeding e h = elim h [ ]
leaves_silently says (Seated interval head) e h = elim h [ ]
leaves_silently says (Drawn bytes title) e h = elim h [ ]
leaves_silently says (Text text) e h = elim h [ ]
leaves_silently says (Deny rule) e h = elim h [ ]
leaves_silently says Stray e WasNotThere = refl
leaves_silently says (Finished rule) e (HadFinished _) = refl
leaves_silently says Noted e IsNoted =
    ap (λ (xs : List ℕ). xs ++ while_open (said says Noted).state []) (noted_silently says says.closing e) ∙ nothing_later (said says Noted).state
