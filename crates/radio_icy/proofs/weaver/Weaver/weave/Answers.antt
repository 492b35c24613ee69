use Rattle.std.proofs.Common.{◌<◌, ◌+◌, ◌++◌, length, arith, ap, sym, ◌∙◌}
use Rattle.std.specs.Option.{option_copied, option_map}
use Rattle.radio_icy.specs.Weaving.{Weaving}
use Rattle.radio_icy.proofs.WeavingLemmas.{woven_part, after_part}
use Rattle.radio_icy.proofs.weaver.Weaver.weave.Goals as goal

pub returns-then-sound-self-clause-woven : goal.returns-then-sound-self-clause-woven
returns-then-sound-self-clause-woven c =
    let w : Weaving = record { interval = c.self.inside.interval; place = c.self.inside.place; sent = option_map (λ v. v.items) c.self.inside.sent } in
    let short : w.place + length c.args.sound.now < w.interval = omega arith in
    rw (c.in_ok-extend_from_slice.ensures.items, ← c.self.view_is)
    (ap (λ t. c.args.out.now.items ++ t) (sym (woven_part w (option_copied c.args.title) c.args.sound.now short)))

pub returns-then-sound-self-clause-after : goal.returns-then-sound-self-clause-after
returns-then-sound-self-clause-after c =
    let w : Weaving = record { interval = c.self.inside.interval; place = c.self.inside.place; sent = option_map (λ v. v.items) c.self.inside.sent } in
    let short : w.place + length c.args.sound.now < w.interval = omega arith in
    rw (← c.self.view_is) (sym (after_part w (option_copied c.args.title) c.args.sound.now short))
