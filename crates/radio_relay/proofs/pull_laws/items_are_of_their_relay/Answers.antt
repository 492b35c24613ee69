use Rattle.std.proofs.Common.{◌≡◌, ℕ, List, Option, None, Some, refl}
use Rattle.radio_values.specs.declared.field.Shown.{Shown}
use Rattle.radio_events.specs.declared.event.Event.TheVariants.{RelayUp}
use Rattle.radio_relay.proofs.Words.{Up, event_for}
use Rattle.radio_relay.proofs.pull_laws.items_are_of_their_relay.Goals as goal

head_at : (mount : List ℕ) (number : Option ℕ) (shown : Shown) → event_for mount number (Up shown) ≡ Some (RelayUp mount shown)
head_at mount None shown = refl
head_at mount (Some number) shown = refl

pub returns : goal.returns
returns c = record {
  head = head_at;
  sound = λ mount block number. refl;
  title = λ mount text number. refl;
  no_sound = λ mount block. refl;
  no_title = λ mount text. refl;
}
