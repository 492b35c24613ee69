use Rattle.std.proofs.Common.{◌≡◌, ℕ, List, IfOk, Option, ap, subst, ◌∙◌}
use Rattle.radio_floor.proofs.Words.{option_map, Event, cleaned, max_title, PullsAs, AsksOn}
use Rattle.radio_events.specs.declared.event.Event.TheVariants.{Title}
use Rattle.radio_floor.proofs.handler.Handler.name.Goals as goal

pub returns : goal.returns
returns c =
    let number = c.args.pull.now.number in
    let event : c.title-event.result ≡ option_map (λ id. Title id (cleaned max_title c.args.text.now)) number =
    c.title-event.ensures ∙ ap (λ (text : List ℕ). option_map (λ id. Title id text) number) c.in_ok-text.ensures in
    subst (λ (e : Option Event). IfOk c.ask.result (λ ends. PullsAs c.args.self.now.core c.ask.new.self.core ends c.ask.new.pull
    (λ state label done. AsksOn state label c.args.pull.now e done))) event c.ask.ensures
