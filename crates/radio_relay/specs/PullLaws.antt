-- Laws on pulls, for callers.
use Rattle.std.specs.Prelude.{◌≡◌, ℕ, List, Option, None, Some}
use Rattle.radio_values.specs.declared.field.Shown.{Shown}
use Rattle.radio_events.specs.declared.event.Event.TheVariants.{Push, RelayUp, Title}
use Rattle.radio_relay.specs.declared.items.PullItem.TheVariants.{Sound, Title as TitleItem, Up}
use Rattle.radio_relay.specs.Pulling.{event_for}

-- What is pulled in is asked for by its own relay.
pub record ItemsAreOfTheirRelay : Type 0 where
  -- the head of the answer brings it up at its local mount
  pub head : (mount : List ℕ) (number : Option ℕ) (shown : Shown) → event_for mount number (Up shown) ≡ Some (RelayUp mount shown)
  -- sound is a block of the number that it was given, and a title is that number's
  pub sound : (mount block : List ℕ) (number : ℕ) → event_for mount (Some number) (Sound block) ≡ Some (Push number block)
  pub title : (mount text : List ℕ) (number : ℕ) → event_for mount (Some number) (TitleItem text) ≡ Some (Title number text)
  -- and while it is not up it brings neither
  pub no_sound : (mount block : List ℕ) → event_for mount None (Sound block) ≡ None
  pub no_title : (mount text : List ℕ) → event_for mount None (TitleItem text) ≡ None
