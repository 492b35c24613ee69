use Rattle.std.proofs.Common.{Option, Some, None, ap, sym, ◌∙◌}
use Rattle.radio_parts_station.proofs.Words.{find, option_copied, Registry, live_number, is_live_mount}
use Rattle.radio_parts_station.proofs.LiveMounts.{number_known}
use Rattle.radio_parts_station.proofs.registry.Registry.live_number.Goals as goal

pub returns-in-Some : goal.returns-in-Some
returns-in-Some c =
    sym (number_known c.args.self.now c.args.mount.now (Some c.in-Some.live.now)
    (ap (λ (registry : Registry). find (is_live_mount c.args.mount.now) registry.live) (sym c.self.view_is) ∙ sym c.get.ensures ∙ ap option_copied c.in-Some.is))

pub returns-in-None : goal.returns-in-None
returns-in-None c =
    sym (number_known c.args.self.now c.args.mount.now None
    (ap (λ (registry : Registry). find (is_live_mount c.args.mount.now) registry.live) (sym c.self.view_is) ∙ sym c.get.ensures ∙ ap option_copied c.in-None.is))
