use Rattle.std.proofs.Common.{◌≡◌, Option, Some, None, Bor, refl, ap, sym, ◌∙◌}
use Rattle.radio_parts_station.proofs.Words.{◌||◌, find, is_some, option_copied, LiveMount, Registry, is_live_mount, is_on_demand}
use Rattle.radio_parts_station.proofs.LiveMounts.{heard_known}
use Rattle.radio_parts_station.proofs.registry.Registry.can_be_heard.Goals as goal

some_copied : (found : Option (Bor LiveMount)) → is_some (option_copied found) ≡ is_some found
some_copied None = refl
some_copied (Some row) = refl

pub returns-then-is_some : goal.returns-then-is_some
returns-then-is_some c =
    let registry = c.args.self.now in
    let mount = c.args.mount.now in
    c.if-is_some.true
    ∙ sym (heard_known registry mount (option_copied c.get.result)
    (ap (λ (registry : Registry). find (is_live_mount mount) registry.live) (sym c.self.view_is) ∙ sym c.get.ensures)
    ∙ ap (λ known. known || is_on_demand registry.settings mount) (some_copied c.get.result ∙ sym c.is_some.ensures ∙ c.if-is_some.true))

pub returns-else-is_some : goal.returns-else-is_some
returns-else-is_some c =
    let registry = c.args.self.now in
    let mount = c.args.mount.now in
    c.is_on_demand.ensures
    ∙ sym (heard_known registry mount (option_copied c.get.result)
    (ap (λ (registry : Registry). find (is_live_mount mount) registry.live) (sym c.self.view_is) ∙ sym c.get.ensures)
    ∙ ap (λ known. known || is_on_demand registry.settings mount) (some_copied c.get.result ∙ sym c.is_some.ensures ∙ c.if-is_some.false))
