-- Words of what a relay asks for.
use Rattle.std.proofs.Common.{◌≡◌, ℕ, List, [], ◌∷◌, ◌++◌, Option, Some, refl}
use Rattle.radio_headline.proofs.Words.{Shown, Entry, Event, Arrive, Source, Push, SourceEnd, Title, Listen, Draw, Command, Leave, RelayUp, RelayDown, Clock, Reply, Arrived, Feeding, Seated, Drawn, Text, Deny, Finished}
use Rattle.radio_headline.proofs.Words.{Stray, PullItem, Up, Running, number_after, state_after_reply}
use Rattle.radio_events.specs.declared.reply.Reply.TheVariants.{Noted as WasNoted}
use Rattle.radio_headline.proofs.Logs.{Each}

-- an event is of the relay of this number, or asks for one
abbrev pub OfRelay : Option ℕ → Event → Type 0
OfRelay number (RelayUp mount shown) = Unit {0}
OfRelay number (Push id block) = number ≡ Some id
OfRelay number (Title id text) = number ≡ Some id
OfRelay number (Draw id room) = number ≡ Some id
OfRelay number (RelayDown id) = number ≡ Some id
OfRelay number event = ⊥

-- each event is of the relay, by the number that it has then
abbrev pub OwnRelay : Option ℕ → List Entry → Type 0
OwnRelay number [] = Unit {0}
OwnRelay number (e ∷ log) = OfRelay number e.event × OwnRelay (state_after_reply number e.reply).number log

-- whatever holds of nothing that a relay asks for holds of none of these
pub relay_asks_not : (P : Event → Type 0) → ((mount : List ℕ) (shown : Shown) → P (RelayUp mount shown) → ⊥) → ((id : ℕ) (block : List ℕ) → P (Push id block) → ⊥)
    → ((id : ℕ) (text : List ℕ) → P (Title id text) → ⊥) → ((id room : ℕ) → P (Draw id room) → ⊥) → ((id : ℕ) → P (RelayDown id) → ⊥)
    → (number : Option ℕ) (log : List Entry) → OwnRelay number log → Each (λ e. P e.event → ⊥) log
relay_asks_not P up push title draw down number [] own = tt
relay_asks_not P up push title draw down number (e ∷ log) own =
    (by_event e.event own.0, relay_asks_not P up push title draw down (state_after_reply number e.reply).number log own.1) where
      by_event : (event : Event) → OfRelay number event → P event → ⊥
      by_event (Arrive peer) h a = elim h [ ]
      by_event (Source asked) h a = elim h [ ]
      by_event (SourceEnd id) h a = elim h [ ]
      by_event (Listen asked) h a = elim h [ ]
      by_event (Command asked) h a = elim h [ ]
      by_event (Leave id) h a = elim h [ ]
      by_event (Clock ms) h a = elim h [ ]
      by_event (RelayUp mount shown) h a = up mount shown a
      by_event (Push id block) h a = push id block a
      by_event (Title id text) h a = title id text a
      by_event (Draw id room) h a = draw id room a
      by_event (RelayDown id) h a = down id a

pub number_joined : (number : Option ℕ) (log more : List Entry) → number_after number (log ++ more) ≡ number_after (number_after number log) more
number_joined number [] more = refl
number_joined number (e ∷ log) more = number_joined (state_after_reply number e.reply).number log more

pub own_joined : (number : Option ℕ) (log more : List Entry) → OwnRelay number log → OwnRelay (number_after number log) more → OwnRelay number (log ++ more)
own_joined number [] more h k = k
own_joined number (e ∷ log) more h k = (h.0, own_joined (state_after_reply number e.reply).number log more h.1 k)

-- a number stays
pub number_stays : (number : ℕ) (reply : Reply) → (state_after_reply (Some number) reply).number ≡ Some number
number_stays number (Arrived id) = refl
number_stays number Feeding = refl
number_stays number (Seated interval shown) = refl
number_stays number (Drawn bytes title) = refl
number_stays number WasNoted = refl
number_stays number (Text text) = refl
number_stays number (Deny rule) = refl
number_stays number (Finished rule) = refl
number_stays number Stray = refl

-- the policy denied it, or it had been finished
abbrev pub IsRefusal : Reply → Type 0
IsRefusal (Deny rule) = Unit {0}
IsRefusal (Finished rule) = Unit {0}
IsRefusal reply = ⊥

abbrev pub IsNotRefused : Entry → Type 0
IsNotRefused e = IsRefusal e.reply → ⊥

-- a client leaves, or a relay goes down
abbrev pub IsGoing : Event → Type 0
IsGoing (Leave id) = Unit {0}
IsGoing (RelayDown id) = Unit {0}
IsGoing event = ⊥

-- behind a refusal nothing comes but that one goes
abbrev pub IsCut : List Entry → Type 0
IsCut [] = Unit {0}
IsCut (e ∷ log) = (IsRefusal e.reply → Each (λ x. IsGoing x.event) log) × IsCut log

pub cut_joined : (log more : List Entry) → Each IsNotRefused log → IsCut more → IsCut (log ++ more)
cut_joined [] more h k = k
cut_joined (e ∷ log) more h k = ((λ r. absurd (h.0 r)), cut_joined log more h.1 k)

-- no relay comes up
abbrev pub IsNoUp : Event → Type 0
IsNoUp (RelayUp mount shown) = ⊥
IsNoUp event = Unit {0}

abbrev pub AreNoUps : List PullItem → Type 0
AreNoUps [] = Unit {0}
AreNoUps (Up shown ∷ items) = ⊥
AreNoUps (item ∷ items) = AreNoUps items

pub refused_shuts : (number : Option ℕ) (reply : Reply) → (state_after_reply number reply).state ≡ Running → IsRefusal reply → ⊥
refused_shuts number (Arrived id) e h = h
refused_shuts number Feeding e h = h
refused_shuts number (Seated interval head) e h = h
refused_shuts number (Drawn bytes title) e h = h
refused_shuts number WasNoted e h = h
refused_shuts number (Text text) e h = h
refused_shuts number (Deny rule) e h = cc
refused_shuts number (Finished rule) e h = cc
refused_shuts number Stray e h = h
