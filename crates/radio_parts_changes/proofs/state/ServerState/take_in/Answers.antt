use Rattle.std.proofs.Common.{◌≡◌, refl, ap, sym, subst, arith}
use Rattle.radio_parts_changes.proofs.Words.{length-map, Lagged, finished_if, with_ended, Listening, still_live, AreLive, longer_kept, kept_fed, is_of, lags_behind, changed_prepared}
use Rattle.radio_parts_changes.proofs.PreparedSeats.{live_changed, seats_changed}
use Rattle.radio_parts_changes.proofs.state.ServerState.take_in.Goals as goal

pub invariant_of-self-2 : goal.invariant_of-self-2
invariant_of-self-2 c =
    let registry = c.self.inside.registry in
    let limit = registry.settings.limits.queue_size in
    let before = c.self.inside.listeners in
    let received = c.receive.new.self in
    let live = kept_fed limit before.live c.args.mount c.args.block registry.time in
    let is : received ≡ record before { live = live } =
    rw (c.in_ok-end.ensures.ok, c.get-limit.ensures.number, c.settings.ensures, c.time-moment.ensures) refl in
    let lag = lags_behind c.args.mount c.in_ok-end.end c.get-limit.result in
    let many = length-map received.seats (finished_if lag Lagged) in (
      seats_changed registry.settings received c.end_lagging.new.self (with_ended received.seats lag Lagged) c.end_lagging.ensures (omega (arith, many))
          (live_changed registry.settings registry.settings before received live refl is
          (changed_prepared before.live live before.prepared c.args.mount (longer_kept limit c.args.block registry.time) (λ session. refl) refl
          c.self.invariant.0.0)
          c.self.invariant.0.1),
      subst (λ (l : Listening). AreLive registry.live l.live) (sym c.end_lagging.ensures)
          (still_live registry.live registry.live before.live received.live c.self.invariant.1 (is_of c.args.mount)
          (longer_kept limit c.args.block registry.time) (λ session. refl) refl (ap (λ (l : Listening). l.live) is)),
    )

pub returns-clause-ok : goal.returns-clause-ok
returns-clause-ok c =
    rw (← c.self.view_is) (rw (
      c.end_lagging.ensures,
      c.in_ok-end.ensures.ok,
      c.in_ok-end.ensures.end,
      c.get-limit.ensures.number,
      c.settings.ensures,
      c.time-moment.ensures,
    ) refl)
