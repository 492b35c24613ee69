-- Which clients learn that they were finished.
use Rattle.std.specs.Prelude.{◌≡◌, ℕ, Some, List, ◌∷◌, ◌++◌}
use Rattle.radio_policy.specs.declared.rule.Rule.{Rule}
use Rattle.radio_settings_values.specs.declared.settings.Settings.{Settings}
use Rattle.radio_access.specs.Lists.{Lists}
use Rattle.radio_events.specs.declared.event.Event.{Event}
use Rattle.radio_events.specs.declared.reply.Reply.TheVariants.{Finished}
use Rattle.radio_core.specs.Run.{run_after}
use Rattle.radio_parts.specs.Step.{reply_to}
use Rattle.radio_events.specs.Events.{client_in}
use Rattle.radio_core.specs.Finishes.{Finishes}

-- one of the events of a run finished the client by the rule
-- rule: Finishes are silent
pub record WasFinished (settings : Settings) (lists : Lists) (events : List Event) (id : ℕ) (rule : Rule) : Type 0 where
  pub before : List Event
  pub event : Event
  pub after : List Event
  pub in_order : events ≡ before ++ event ∷ after
  pub finishes : Finishes (run_after settings lists before) event id rule

-- a client that learns that a rule finished it was finished by that rule at an earlier event
abbrev pub FinishedAreTold : Settings → Lists → List Event → Event → Type 0
FinishedAreTold settings lists events event = (rule : Rule) → reply_to (run_after settings lists events) event ≡ Finished rule
    → (id : ℕ) × (client_in event ≡ Some id) × WasFinished settings lists events id rule
