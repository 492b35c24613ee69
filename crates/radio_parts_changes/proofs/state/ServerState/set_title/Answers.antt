use Rattle.std.proofs.Common.{Some, refl, ap, sym, ◌∙◌}
use Rattle.radio_parts_changes.proofs.Words.{Listening, still_live, station_state, is_of, titled, with_title, changed_prepared, World, world, on_air}
use Rattle.radio_parts_changes.proofs.PartChanges.{is_on_air}
use Rattle.radio_parts_changes.proofs.PreparedSeats.{live_changed}
use Rattle.radio_parts_changes.proofs.state.ServerState.set_title.Goals as goal

pub invariant_of-self : goal.invariant_of-self
invariant_of-self c =
    let registry = c.self.inside.registry in
    let before = c.self.inside.listeners in
    let live = titled before.live c.args.mount.now c.args.title in (
      live_changed registry.settings registry.settings before c.set_title.new.self live refl c.set_title.ensures
          (changed_prepared before.live live before.prepared c.args.mount.now (with_title (Some c.args.title)) (λ session. refl) refl c.self.invariant.0.0)
          c.self.invariant.0.1,
      still_live registry.live registry.live before.live c.set_title.new.self.live c.self.invariant.1 (is_of c.args.mount.now) (with_title (Some c.args.title))
          (λ session. refl) refl (ap (λ (l : Listening). l.live) c.set_title.ensures),
    )

pub returns : goal.returns
returns c =
    let registry = c.self.inside.registry in
    let before = c.self.inside.listeners in
    ap (λ (l : Listening). world (station_state registry l.live) l.seats) c.set_title.ensures
    ∙ sym (is_on_air (world (station_state registry before.live) before.seats) c.args.mount.now c.args.title)
    ∙ ap (λ (w : World). on_air w c.args.mount.now c.args.title) c.self.view_is
