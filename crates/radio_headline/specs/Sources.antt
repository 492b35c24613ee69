-- What sources bring, over any course: `brought` are the bytes that came on the connection of each label.
use Rattle.std.specs.Prelude.{◌≡◌, ◌⊎◌, ℕ, true, List, [], ◌∷◌, ◌++◌}
use Rattle.std.specs.List.{flat_map}
use Rattle.radio_addr.specs.declared.peer.Peer.{Peer}
use Rattle.radio_values.specs.declared.field.Shown.{Shown}
use Rattle.radio_settings_values.specs.declared.settings.Settings.{Settings}
use Rattle.radio_access.specs.Lists.{Lists}
use Rattle.radio_events.specs.declared.event.Event.{Event}
use Rattle.radio_events.specs.declared.event.Event.TheVariants.{Source, Push, RelayUp}
use Rattle.radio_events.specs.declared.event.SourceRequest.{SourceRequest}
use Rattle.radio_core.specs.Handing.{delivered}
use Rattle.radio_core.specs.Run.{run_after}
use Rattle.radio_core.specs.SessionSteps.{HasBegun}
use Rattle.radio_parts.specs.Step.{reply_to}
use Rattle.radio_parts_station.specs.Streams.{shown_for}
use Rattle.radio_parts_station.specs.Waiting.{is_on_demand, shown_by_nobody}
use Rattle.radio_parts_station.specs.World.{opening}
use Rattle.radio_events.specs.declared.reply.Reply.TheVariants.{Arrived}
use Rattle.radio_parts_mount.specs.Sessions.{Session}
use Rattle.radio_relay.specs.Laws.{sound_of_parts}
use Rattle.radio_relay.specs.Pulled.{IsPulled, PulledPart, Pulled, ShownPart}
use Rattle.radio_answers.specs.declared.web_answers.WebAnswers.{WebAnswers}
use Rattle.radio_session.specs.Conversation.{fresh}
use Rattle.radio_session.specs.Hearing.{EventReading, IsHeard}
use Rattle.radio_headline.specs.Course.{Happening, events_in, on}

abbrev pub pushed_by : Event → List ℕ
pushed_by (Push id block) = block
pushed_by event = []

-- the data that a source brings by these events, joined in their order
abbrev pub pushed : List Event → List ℕ
pushed events = flat_map pushed_by events

-- these bytes, from the client of this number, are read as a request and what comes behind it
pub record IsRequest (bytes : List ℕ) (id : ℕ) (request : Event) (behind : List Event) : Type 0 where
  pub web : WebAnswers
  pub peer : Peer
  pub heard : EventReading
  pub is_heard : IsHeard (fresh web id peer) bytes heard
  pub begins : heard.events ≡ request ∷ behind

-- On the connection of the label a source's request comes. All that the source delivers through the course is a front of the data behind the
-- request, as the bytes of its body are read. Undelivered data came when it was not admitted or had been ended, or are still to be
-- delivered.
pub record DeliversItsBody (settings : Settings) (lists : Lists) (brought : ℕ → List ℕ) (course : List Happening) (label : ℕ) (asked : SourceRequest)
    : Type 0 where
  pub behind : List Event
  pub is_request : IsRequest (brought label) asked.id (Source asked) behind
  pub undelivered : List ℕ
  pub is_front : pushed behind ≡ delivered (opening settings lists) (events_in course) asked.id ++ undelivered

-- On the connection of the label a master's answer comes, whose head shows this of the stream. All that the relay delivers under this number is
-- a front of the sound that the answer pulls in behind that head.
pub record DeliversItsSound (settings : Settings) (lists : Lists) (brought : ℕ → List ℕ) (course : List Happening) (label number : ℕ) (shown : Shown)
    : Type 0 where
  pub pulled : Pulled
  pub is_pulled : IsPulled (brought label) pulled
  pub parts : List PulledPart
  pub begins : pulled.parts ≡ ShownPart shown ∷ parts
  pub undelivered : List ℕ
  pub is_front : sound_of_parts parts ≡ delivered (opening settings lists) (events_in course) number ++ undelivered

-- The number 0 is no client's, and nothing is delivered under it. While a listener waits for a session it sits in one of this
-- number, without data.
abbrev pub NobodyDelivers : Settings → Lists → List Event → Type 0
NobodyDelivers settings lists events = delivered (opening settings lists) events 0 ≡ []

-- This session is that of a source that has asked to feed its mount, or of a relay that has come up there. It shows what the source or relay
-- shows, by the settings. Or there is no session, and one is awaited there.
module _ (settings : Settings) (lists : Lists) (brought : ℕ → List ℕ) (course : List Happening) (mount : List ℕ) (number : ℕ) where
  pub record IsOfASource (shown_now : Shown) : Type 0 where
    pub label : ℕ
    pub asked : SourceRequest
    pub its_mount : asked.mount ≡ mount
    pub its_number : asked.id ≡ number
    pub before : List Happening
    pub after : List Happening
    pub has_asked : course ≡ before ++ on label (Source asked) ∷ after
    pub begun : Session
    pub has_begun : HasBegun (run_after settings lists (events_in before)) mount number asked.shown begun
    pub still_shown : shown_now ≡ begun.shown
    pub delivers : DeliversItsBody settings lists brought course label asked

  pub record IsOfARelay (shown_now : Shown) : Type 0 where
    pub label : ℕ
    pub shown : Shown
    pub before : List Happening
    pub after : List Happening
    pub has_come_up : course ≡ before ++ on label (RelayUp mount shown) ∷ after
    pub begun : Session
    pub has_begun : HasBegun (run_after settings lists (events_in before)) mount number shown begun
    pub still_shown : shown_now ≡ begun.shown
    pub delivers : DeliversItsSound settings lists brought course label number shown

  -- there is none: a relay of the settings feeds the mount on demand, and one is awaited there. Its number is nobody's, under which nothing
  -- is delivered, and it shows what the settings say
  pub record IsAwaited (shown_now : Shown) : Type 0 where
    pub on_demand : is_on_demand settings mount ≡ true
    pub shows : shown_now ≡ shown_for (opening settings lists).station mount shown_by_nobody
    pub of_nobody : number ≡ 0
    pub delivers_nothing : NobodyDelivers settings lists (events_in course)

  abbrev pub HasItsSource : Shown → Type 0
  HasItsSource shown_now = IsOfASource shown_now ⊎ IsOfARelay shown_now ⊎ IsAwaited shown_now

-- each client that asks to feed a mount
abbrev pub SourcesDeliverTheirBodies : Settings → Lists → (ℕ → List ℕ) → List Happening → Type 0
SourcesDeliverTheirBodies settings lists brought course = (label : ℕ) (asked : SourceRequest) (past later : List Happening)
    → course ≡ past ++ on label (Source asked) ∷ later → DeliversItsBody settings lists brought course label asked

-- each relay that comes up, and is given this number
abbrev pub RelaysDeliverTheirSound : Settings → Lists → (ℕ → List ℕ) → List Happening → Type 0
RelaysDeliverTheirSound settings lists brought course = (label : ℕ) (mount : List ℕ) (shown : Shown) (number : ℕ) (past later : List Happening)
    → course ≡ past ++ on label (RelayUp mount shown) ∷ later
    → reply_to (run_after settings lists (events_in past)) (RelayUp mount shown) ≡ Arrived number
    → DeliversItsSound settings lists brought course label number shown
