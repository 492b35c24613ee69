-- What holds over any course, if it is known of each label what came on its connection, what happened there and what was given.
use Rattle.std.proofs.Common.{◌≡◌, ℕ, List, ◌++◌}
use Rattle.radio_headline.proofs.Words.{concat, blocks_of, Settings, Lists, WebAnswers, Allow, Row, Allows, verdict_in, Event, ShowsRequest, IsStableReading, HeadsLieWithin, Place, after, data_of, ClientsStep}
use Rattle.radio_headline.proofs.Words.{RepliesFit, run_after, KeepsSettings, SessionsStep, AddsUp, opening, AccessIsKept, BeginsAtABlock, DenialsAreThePolicys, Serves, SeatsKeepTheirMounts, DrawsFollowTheHead}
use Rattle.radio_headline.proofs.Words.{PlainDrawsAreTheirData, JoinedDrawsAreWoven, DrawsAreTakenOutAgain, Happening, events_in, log_on, IsLawful, BodiesAreHeard, CourseHearsSlices, DrawsAreCut, DrawsAreStretches}
use Rattle.radio_headline.proofs.Words.{NobodyDelivers, RelaysDeliverTheirSound, SourcesDeliverTheirBodies}
use Rattle.radio_relay.specs.PullLaws.{ItemsAreOfTheirRelay}
use Rattle.radio_headline.proofs.BodyLemmas.{delivers_body, listens_so, source_answered}
use Rattle.radio_headline.proofs.Connections.{IsClosed}
use Rattle.radio_headline.proofs.HeadlineLemmas.{shown_by_source, sit_with_sources}
use Rattle.radio_headline.proofs.ListenerLemmas.{answered_by, given_by}
use Rattle.radio_headline.proofs.RunLemmas.{AllNowhere, IsMoment}
use Rattle.radio_headline.proofs.SoundLemmas.{delivers_sound}

module _ (web : WebAnswers) (settings : Settings) (lists : Lists)
    (settled : IsStableReading ShowsRequest) (within : HeadsLieWithin ShowsRequest) (joined : (bytes : List ℕ) → concat (blocks_of bytes) ≡ bytes)
    (places : (place : Place) (first second : List ℕ) → after place (first ++ second) ≡ after (after place first) second)
    (data_joined : (place : Place) (first second : List ℕ) → data_of place (first ++ second) ≡ data_of place first ++ data_of (after place first) second)
    (fits : (events : List Event) (event : Event) → RepliesFit (run_after settings lists events) event)
    (adds : (events : List Event) (event : Event) → AddsUp (run_after settings lists events) event)
    (steps : (events : List Event) (event : Event) → ClientsStep (run_after settings lists events) event)
    (access : (events : List Event) (event : Event) → AccessIsKept (run_after settings lists events) event)
    (serves : (events : List Event) → Serves (run_after settings lists events))
    (policy : (rows : List Row) → verdict_in rows ≡ Allow → Allows rows)
    (denied : (events : List Event) (event : Event) → DenialsAreThePolicys (run_after settings lists events) event)
    (begins : (events : List Event) (event : Event) → BeginsAtABlock (run_after settings lists events) event)
    (stretches : (events : List Event) (id : ℕ) → DrawsAreStretches settings lists events id)
    (cut : (events : List Event) (id : ℕ) → DrawsAreCut settings lists events id)
    (follow : DrawsFollowTheHead) (plainly : PlainDrawsAreTheirData) (weave : JoinedDrawsAreWoven) (take : DrawsAreTakenOutAgain)
    (sessions : (events : List Event) (event : Event) → SessionsStep (run_after settings lists events) event)
    (mounts : (events : List Event) (event : Event) → SeatsKeepTheirMounts (run_after settings lists events) event)
    (keeps : (events : List Event) (event : Event) → KeepsSettings (run_after settings lists events) event)
    (nobody : (events : List Event) → NobodyDelivers settings lists events)
    (lawful : (events : List Event) (event : Event) → IsLawful settings lists events event)
    (bodies : BodiesAreHeard) (pulls : ItemsAreOfTheirRelay)
    (brought given : ℕ → List ℕ) (course : List Happening)
    (each : (label : ℕ) → IsClosed web (brought label) (log_on (opening settings lists) course label) (given label))
    (nowhere : AllNowhere (λ h. IsMoment h.event) course) where
  feed : SourcesDeliverTheirBodies settings lists brought course
  feed = delivers_body web settled within joined places data_joined settings lists fits adds steps brought given course each nowhere

  pull : RelaysDeliverTheirSound settings lists brought course
  pull = delivers_sound web settings lists fits adds steps brought given course each nowhere

  pub course_hears : CourseHearsSlices web settings lists course brought given
  course_hears = record {
    lawful = λ past later happening parts. lawful (events_in past) happening.event;
    listeners = λ label asked past later parts. record {
      is_request = listens_so web settled within joined places data_joined settings lists fits adds steps brought given course each nowhere label asked past later parts;
      is_given = given_by web settings lists fits adds steps access serves policy denied begins stretches cut follow plainly weave take brought given course each nowhere
          (shown_by_source settings lists sessions mounts keeps nobody brought course feed pull nowhere)
          (sit_with_sources settings lists sessions mounts keeps nobody brought course feed pull nowhere) label asked past later parts;
    };
    commands = λ label asked past later parts.
        answered_by web settings lists fits adds steps access serves policy denied begins stretches cut follow plainly weave take brought given course each nowhere
        (shown_by_source settings lists sessions mounts keeps nobody brought course feed pull nowhere)
        (sit_with_sources settings lists sessions mounts keeps nobody brought course feed pull nowhere) label asked past later parts;
    sources = feed;
    bodies = bodies;
    pulls = pulls;
    answers = λ label asked past later parts.
        source_answered web settled within joined places data_joined settings lists fits adds steps brought given course each nowhere label asked past later parts denied;
    relays = pull;
  }
