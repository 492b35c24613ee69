-- What each client is given, over any course. `brought` are the bytes that came on the connection of each label, `given` its replies' bytes.
use Rattle.std.specs.Prelude.{◌≡◌, ℕ, List, [], ◌∷◌, ◌++◌, flat_map, map, Option, None, Some}
use Rattle.std.specs.List.{AllByRecursion}
use Rattle.radio_values.specs.declared.field.Shown.{Shown}
use Rattle.radio_settings_values.specs.declared.settings.Settings.{Settings}
use Rattle.radio_access.specs.Lists.{Lists}
use Rattle.radio_policy.specs.declared.rule.Rule.{Rule}
use Rattle.radio_policy.specs.Verdicts.{Denies}
use Rattle.radio_events.specs.declared.event.Event.{Event}
use Rattle.radio_events.specs.declared.event.Event.TheVariants.{Source, Listen, Command}
use Rattle.radio_events.specs.declared.command.CommandRequest.{CommandRequest}
use Rattle.radio_events.specs.declared.event.ListenRequest.{ListenRequest}
use Rattle.radio_events.specs.declared.event.SourceRequest.{SourceRequest}
use Rattle.radio_events.specs.declared.reply.Reply.{Reply}
use Rattle.radio_events.specs.declared.reply.Reply.TheVariants.{Feeding, Seated, Text, Deny, Finished}
use Rattle.radio_events.specs.declared.reply.StreamHead.{StreamHead}
use Rattle.radio_events.specs.declared.text.ReplyText.{ReplyText as ShownText}
use Rattle.radio_icy.specs.Weaving.{Call}
use Rattle.radio_icy.specs.Bare.{sound_in}
use Rattle.radio_icy.specs.Stream.{IsWoven, sound_of_calls}
use Rattle.radio_core.specs.Handing.{of_client, delivered}
use Rattle.radio_core.specs.Run.{run_after}
use Rattle.radio_parts.specs.Step.{reply_to, world_after}
use Rattle.radio_parts.specs.Ways.{rows_for}
use Rattle.radio_parts_station.specs.World.{World, opening}
use Rattle.radio_laws.specs.Admission.{IsSeated}
use Rattle.radio_laws.specs.Stretches.{AreSlices, AreStretches, Sitting, cut_at_sittings, sittings}
use Rattle.radio_relay.specs.PullLaws.{ItemsAreOfTheirRelay}
use Rattle.radio_answers.specs.declared.web_answers.WebAnswers.{WebAnswers}
use Rattle.radio_session.specs.Bodies.{PlainBodiesAreHeard, SizedBodiesAreHeard, ChunkedBodiesAreHeard, FaultyBodiesAreHeard}
use Rattle.radio_session.specs.Draws.{joined_draws}
use Rattle.radio_answers.specs.Answers.{denial, head_text, sent_interval, text_answer}
use Rattle.radio_session.specs.Saying.{greeting_text}
use Rattle.radio_session.specs.Told.{draws_of, taken_out}
use Rattle.radio_headline.specs.Course.{Happening, events_in, on}
use Rattle.radio_headline.specs.Lawful.{IsLawful}
use Rattle.radio_headline.specs.Sources.{HasItsSource, IsRequest, RelaysDeliverTheirSound, SourcesDeliverTheirBodies}

-- the draws of the listener of this number by the events, in their order
abbrev pub draws_to : World → List Event → ℕ → List Call
draws_to w [] id = []
draws_to w (event ∷ events) id = of_client event id (draws_of (reply_to w event ∷ [])) ++ draws_to (world_after w event) events id

-- The data in the draws of a listener are slices joined in order, one for each of its sittings. Each slice is of what the source
-- of its session delivered, from the place at which the listener sat down.
abbrev pub DrawsAreStretches : Settings → Lists → List Event → ℕ → Type 0
DrawsAreStretches settings lists events id =
    let w = opening settings lists in
    AreStretches (delivered w events) (sittings w events id) (sound_of_calls (draws_to w events id))

-- the draws of the listener of this number by an event
abbrev pub draw_to : ℕ → World → Event → List Call
draw_to id w event = of_client event id (draws_of (reply_to w event ∷ []))

-- The draws are split at each moment at which the listener sits down. The data of the draws from one sitting to the next, or to
-- the end, are one slice. The source of its session delivered it. The draws before the first sitting have no data. Joined in
-- order, the parts are all its draws.
abbrev pub DrawsAreCut : Settings → Lists → List Event → ℕ → Type 0
DrawsAreCut settings lists events id =
    let w = opening settings lists in
    let cut = cut_at_sittings (draw_to id) w events id in
    (sound_of_calls cut.before ≡ []) × AreSlices (delivered w events) (sittings w events id) (map sound_of_calls cut.each)
    × (cut.before ++ flat_map (λ draws. draws) cut.each ≡ draws_to w events id)

-- Over a course, whose connections brought these bytes.
module _ (settings : Settings) (lists : Lists) (brought : ℕ → List ℕ) (course : List Happening) where
  -- the server after these happenings
  abbrev pub server_after : List Happening → World
  server_after past = run_after settings lists (events_in past)

  -- the listener sits down in the session of a source, or in one that waits for a source
  abbrev pub SitsWithASource : Sitting → Type 0
  SitsWithASource sitting = (shown : Shown) × HasItsSource settings lists brought course sitting.mount sitting.source shown

  -- for these settings of answers
  module _ (web : WebAnswers) where
    -- The listener is seated in the session of a source, or in one that waits for a source. It reads a head that shows what that
    -- session shows. Then come its draws, woven as one stream at the interval that the head names, or their data alone if it
    -- names none. These data are slices, one for each time that it sat down. Each time it sat with a source, or without data
    -- while it waited for one.
    pub record IsHearing (w : World) (asked : ListenRequest) (interval : Option ℕ) (head : StreamHead) (bytes : List ℕ) : Type 0 where
      pub is_seated : IsSeated w (Listen asked) interval head
      pub shows_his_source :
          HasItsSource settings lists brought course is_seated.session.mount is_seated.session.number head.shown
      pub behind : List ℕ
      pub head_first : bytes ≡ head_text web interval head ++ behind
      pub are_draws : behind ≡ joined_draws interval (draws_to (opening settings lists) (events_in course) asked.id)
      pub plain : sent_interval interval ≡ None → behind ≡ sound_of_calls (draws_to (opening settings lists) (events_in course) asked.id)
      pub woven : (n : ℕ) → sent_interval interval ≡ Some n → IsWoven n (draws_to (opening settings lists) (events_in course) asked.id) behind
      pub taken_out_again : (n : ℕ) → sent_interval interval ≡ Some n
          → sound_in (taken_out n behind) ≡ sound_of_calls (draws_to (opening settings lists) (events_in course) asked.id)
      pub are_slices : DrawsAreStretches settings lists (events_in course) asked.id
      pub are_cut : DrawsAreCut settings lists (events_in course) asked.id
      pub sits_with_sources : AllByRecursion SitsWithASource (sittings (opening settings lists) (events_in course) asked.id)

    -- all that the client of this request reads, by the reply
    pub data IsGiven (w : World) (asked : ListenRequest) (bytes : List ℕ) : Reply → Type 0 where
      -- the policy denies the request; the client reads the first rule that held then
      IsDenied : (rule : Rule) → Denies (rows_for w (Listen asked)) rule → bytes ≡ denial web rule → IsGiven w asked bytes (Deny rule)
      -- the client asked for a path of the web site
      IsShown : (text : ShownText) → bytes ≡ text_answer web text → IsGiven w asked bytes (Text text)
      Hears : (interval : Option ℕ) (head : StreamHead) → IsHearing w asked interval head bytes → IsGiven w asked bytes (Seated interval head)
      -- the client was finished before it had asked
      IsTooLate : (rule : Rule) → bytes ≡ [] → IsGiven w asked bytes (Finished rule)

    -- A client asks to listen on the connection of the label, after these happenings. Its bytes are read as that request, and it
    -- reads this answer.
    pub record ListenerIsAnswered (given : ℕ → List ℕ) (label : ℕ) (asked : ListenRequest) (past : List Happening) : Type 0 where
      pub is_request : IsRequest (brought label) asked.id (Listen asked) []
      pub is_given : IsGiven (server_after past) asked (given label) (reply_to (server_after past) (Listen asked))

    -- A client gives this command. It reads the command's answer, or the first rule that then denied it.
    pub record CommandIsAnswered (given : ℕ → List ℕ) (label : ℕ) (asked : CommandRequest) (past : List Happening) : Type 0 where
      pub denied : (rule : Rule) → reply_to (server_after past) (Command asked) ≡ Deny rule
          → Denies (rows_for (server_after past) (Command asked)) rule × (given label ≡ denial web rule)
      pub told : (text : ShownText) → reply_to (server_after past) (Command asked) ≡ Text text → given label ≡ text_answer web text

    -- A client asks to feed a mount, and its bytes are read as that request. If the policy denies it, it reads the first rule
    -- that held then, and nothing else. If it is admitted, it first reads that it is, or `100 Continue` if it waits for that (RFC
    -- 9110, section 10.1.1).
    pub record SourceIsAnswered (given : ℕ → List ℕ) (label : ℕ) (asked : SourceRequest) (past : List Happening) : Type 0 where
      pub behind : List Event
      pub is_request : IsRequest (brought label) asked.id (Source asked) behind
      pub denied : (rule : Rule) → reply_to (server_after past) (Source asked) ≡ Deny rule
          → Denies (rows_for (server_after past) (Source asked)) rule × (given label ≡ denial web rule)
      pub feeds : reply_to (server_after past) (Source asked) ≡ Feeding
          → (later : List ℕ) × (given label ≡ greeting_text web is_request.heard.conversation.says.greeting ++ later)
      -- the client was finished before it had asked
      pub too_late : (rule : Rule) → reply_to (server_after past) (Source asked) ≡ Finished rule → given label ≡ []

    -- each client that asks to feed a mount
    abbrev pub SourcesAreAnswered : (ℕ → List ℕ) → Type 0
    SourcesAreAnswered given = (label : ℕ) (asked : SourceRequest) (past later : List Happening) → course ≡ past ++ on label (Source asked) ∷ later
        → SourceIsAnswered given label asked past

    -- each client that gives a command
    abbrev pub CommandsAreAnswered : (ℕ → List ℕ) → Type 0
    CommandsAreAnswered given = (label : ℕ) (asked : CommandRequest) (past later : List Happening) → course ≡ past ++ on label (Command asked) ∷ later
        → CommandIsAnswered given label asked past

    -- each client that asks to listen to a mount
    abbrev pub ListenersAreGiven : (ℕ → List ℕ) → Type 0
    ListenersAreGiven given = (label : ℕ) (asked : ListenRequest) (past later : List Happening) → course ≡ past ++ on label (Listen asked) ∷ later
        → ListenerIsAnswered given label asked past

-- The data of a source's body (RFC 9112, section 6), without their framing. They are all of a plain body, the length of a sized
-- one, and those of the chunks of a chunked one. A body with a byte that no chunked body has there ends by that fault.
pub record BodiesAreHeard : Type 0 where
  pub plain : PlainBodiesAreHeard
  pub sized : SizedBodiesAreHeard
  pub chunked : ChunkedBodiesAreHeard
  pub faulty : FaultyBodiesAreHeard

-- A course of these settings and lists, on whose connections these bytes were brought and those were given. Each event is lawful.
-- The sources deliver a front of the data of their bodies, and the relays a front of the sound that they pull in. Each client
-- that asks to listen to a mount reads slices of these data, or the reason why it does not.
pub record CourseHearsSlices (web : WebAnswers) (settings : Settings) (lists : Lists) (course : List Happening) (brought given : ℕ → List ℕ) : Type 0 where
  pub lawful : (past later : List Happening) (happening : Happening) → course ≡ past ++ happening ∷ later
      → IsLawful settings lists (events_in past) happening.event
  pub listeners : ListenersAreGiven settings lists brought course web given
  pub commands : CommandsAreAnswered settings lists brought course web given
  pub sources : SourcesDeliverTheirBodies settings lists brought course
  pub bodies : BodiesAreHeard
  -- what a relay pulls in is its own
  pub pulls : ItemsAreOfTheirRelay
  pub answers : SourcesAreAnswered settings lists brought course web given
  pub relays : RelaysDeliverTheirSound settings lists brought course
