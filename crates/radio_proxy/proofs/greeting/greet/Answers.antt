use Rattle.std.proofs.Common.{refl, sym, ◌∙◌}
use Rattle.std.proofs.lemmas.List.{length-take-le}
use Rattle.radio_proxy.proofs.GreetingLemmas.{found_bad, greeted, keeps_same}
use Rattle.radio_proxy.proofs.greeting.greet.Goals as goal

pub returns-in-Bad : goal.returns-in-Bad
returns-in-Bad g c = (keeps_same _, found_bad _ _ c.requires (sym c.read_header.ensures.value ∙ c.in-Bad.is))

pub returns-then-take_off : goal.returns-then-take_off
returns-then-take_off g c =
    greeted _ _ c.args.front.now c.take_off.new.buffer c.in-Whole.len c.in-Whole.named c.requires (c.take_off.ensures.taken c.if-take_off.true)
    (c.take_off.ensures.len ∙ length-take-le c.in-Whole.len c.args.front.now (c.in-Whole.ensures.within c.in-Whole.len c.in-Whole.named refl)) (sym c.read_header.ensures.value ∙ c.in-Whole.is)
