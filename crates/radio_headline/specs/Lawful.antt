-- The laws of every run, joined at one event.
use Rattle.std.specs.Prelude.{ℕ, List}
use Rattle.radio_settings_values.specs.declared.settings.Settings.{Settings}
use Rattle.radio_access.specs.Lists.{Lists}
use Rattle.radio_events.specs.declared.event.Event.{Event}
use Rattle.radio_events.specs.declared.event.ListenRequest.{ListenRequest}
use Rattle.radio_core.specs.Lagging.{NobodyLags}
use Rattle.radio_core.specs.Run.{run_after}
use Rattle.radio_parts.specs.Step.{world_after}
use Rattle.radio_laws.specs.Access.{AccessIsKept}
use Rattle.radio_laws.specs.Admission.{BeginsAtABlock}
use Rattle.radio_laws.specs.Commanded.{CommandsAreKept, FallbacksStay, KilledHearNothing, OnlyWhoMayCommands, WhoMayIsServed}
use Rattle.radio_laws.specs.Denials.{AddressesAreDenied, DenialsAreThePolicys, KnownMountsAreKnown, OnlySourcesFeed, ThePolicyDenies}
use Rattle.radio_laws.specs.FinishesTold.{FinishedAreTold}
use Rattle.radio_laws.specs.LimitDenials.{DeniesByLimits}
use Rattle.radio_laws.specs.Limits.{AdmitsByLimits, IsWithinLimits}
use Rattle.radio_laws.specs.Outstaying.{NobodyOutstays}
use Rattle.radio_laws.specs.Service.{ChangesNothing, Serves}
use Rattle.radio_laws.specs.Shown.{HiddenAreLeftOut, HiddenAreNotToldOnTheWeb, NobodyFeedsAPath, OnlyWhoMayIsShown, SightIsKept, WhoMayIsShown, WhoVisitsIsShown}
use Rattle.radio_laws.specs.Stretches.{SeatsKeepTheirMounts}
use Rattle.radio_laws.specs.TitlesTold.{TitlesAreTold}
use Rattle.radio_laws.specs.Users.{SittersAreLetIn, UsersStep}
use Rattle.radio_laws.specs.WalkingOn.{ListenersWalkOn, MovesAreWhole}

module _ (settings : Settings) (lists : Lists) (events : List Event) (event : Event) where
  -- Serving: what the policy allows happens. Data follow the listener's place in a stream that is open to it, with the last title. A moved
  -- listener goes where its walk lands, or is finished by the rule that stops the walk.
  pub record IsServedLawfully : Type 0 where
    pub happens : Serves (run_after settings lists events)
    pub handed : AccessIsKept (run_after settings lists events) event
    pub title : TitlesAreTold settings lists events event
    pub begins : BeginsAtABlock (run_after settings lists events) event
    pub keeps : SeatsKeepTheirMounts (run_after settings lists events) event
    pub moves : ListenersWalkOn (run_after settings lists events) event
    pub no_other_moves : MovesAreWhole (run_after settings lists events) event
    pub silent : KilledHearNothing (run_after settings lists events) event

  -- Denying: what the policy denies is denied by the first rule that holds. Nothing else is denied, and nothing else changes. A client that reads that it
  -- was finished was finished by that rule at an earlier event. What is out of place changes nothing.
  pub record IsDeniedLawfully : Type 0 where
    pub denied : DenialsAreThePolicys (run_after settings lists events) event
    pub denies : ThePolicyDenies (run_after settings lists events) event
    pub addresses : AddressesAreDenied (run_after settings lists events)
    pub sources : OnlySourcesFeed (run_after settings lists events) event
    pub known : (asked : ListenRequest) → KnownMountsAreKnown (run_after settings lists events) asked
    pub by_limits : DeniesByLimits (run_after settings lists events) event
    pub finished : FinishedAreTold settings lists events event
    pub nothing : ChangesNothing (run_after settings lists events) event

  -- Limits: after the event no mount has more listeners than allowed, nor a user twice if each may listen once. No listener is further behind
  -- than a queue is long. After a moment nobody is there whose time is over.
  pub record IsWithinItsLimits : Type 0 where
    pub within : IsWithinLimits (world_after (run_after settings lists events) event)
    pub admits : AdmitsByLimits (run_after settings lists events) event
    pub near : NobodyLags (world_after (run_after settings lists events) event)
    pub in_time : (ms : ℕ) → NobodyOutstays (run_after settings lists events) ms

  -- Listing: a client that may see a listing is shown the present state, and no other client is. What everybody or a relay is shown has no
  -- hidden mount. Two runs that agree on what the viewer may see show the same bytes.
  pub record IsListedLawfully : Type 0 where
    pub only_who_may : OnlyWhoMayIsShown (run_after settings lists events) event
    pub who_may : WhoMayIsShown (run_after settings lists events)
    pub who_visits : WhoVisitsIsShown (run_after settings lists events)
    pub unfed : NobodyFeedsAPath (run_after settings lists events)
    pub hidden : HiddenAreLeftOut (run_after settings lists events)
    pub hidden_on_the_web : HiddenAreNotToldOnTheWeb (run_after settings lists events)
    pub alike : (others : Settings) (files : Lists) (more : List Event) → SightIsKept (run_after settings lists events) (run_after others files more)

  -- Changing: a command is done for each client that may give it, and for no other. It does what it names, and no more. Users change by commands alone, and
  -- after the event no listener sits where the users do not let it in.
  pub record IsChangedLawfully : Type 0 where
    pub only_who_may : OnlyWhoMayCommands (run_after settings lists events) event
    pub who_may : WhoMayIsServed (run_after settings lists events)
    pub kept : CommandsAreKept (run_after settings lists events) event
    pub fallbacks : FallbacksStay (run_after settings lists events) event
    pub users : UsersStep (run_after settings lists events) event
    pub sitters : SittersAreLetIn (world_after (run_after settings lists events) event)

  -- when this has happened, an event does what the laws of every run say of it
  pub record IsLawful : Type 0 where
    pub serving : IsServedLawfully
    pub denying : IsDeniedLawfully
    pub limits : IsWithinItsLimits
    pub listing : IsListedLawfully
    pub changing : IsChangedLawfully
