use Rattle.std.proofs.Common.{◌≡◌, ◌==◌, false, sym, subst, ◌∙◌}
use Rattle.radio_parts_changes.proofs.Words.{is_some, named_at, idle_released, heard_alike, station_state, AreLive, heard_at, LiveArePrepared}
use Rattle.radio_parts_changes.proofs.PreparedSeats.{unheard_idle, unheard_released}
use Rattle.radio_parts_changes.proofs.state.ServerState.release_idle.Goals as goal

pub invariant_of-self : goal.invariant_of-self
invariant_of-self c =
    let registry = c.self.inside.registry in
    let before = c.self.inside.listeners in
    let later = c.release.new.self in
    let station = station_state registry before.live in
    let mount = c.args.mount.now in
    let nobody = named_at before.seats mount == 0 in
    let unheard : is_some (heard_at station mount) ≡ false =
    sym (heard_alike registry before.live c.self.invariant.1 mount) ∙ sym c.can_be_heard.ensures ∙ c.if-not-can_be_heard.true in (
      (
        subst (λ live. LiveArePrepared live later.prepared) (sym c.release.ensures.live)
            (idle_released before.live before.prepared later.prepared mount nobody (unheard_idle station mount unheard) c.release.ensures.prepared c.self.invariant.0.0),
        unheard_released station before later mount nobody unheard c.release.ensures.prepared c.release.ensures.seats c.self.invariant.0.1,
      ),
      subst (AreLive registry.live) (sym c.release.ensures.live) c.self.invariant.1,
    )
