use Rattle.std.proofs.Common.{◌≡◌, ◌⊎◌, inl, inr, true, ℕ, ◌+◌, List, [], ◌∷◌, drop, ap, sym, subst, refl, ◌∙◌}
use Rattle.std.proofs.lemmas.List.{drop_all, drop_more}
use Rattle.radio_parts_station.proofs.Words.{RelaySetting, is_prepared, feeds_on_demand}
use Rattle.radio_parts_station.proofs.WaitingLemmas.{first_or_other}
use Rattle.radio_parts_station.proofs.waiting.prepare_each.Goals as goal

pub loop-relay-init : goal.loop-relay-init
loop-relay-init c = (λ mount is. is, refl, λ mount feeds. inr feeds, refl)

pub returns-in_err-prepare_for-clause-others : goal.returns-in_err-prepare_for-clause-others
returns-in_err-prepare_for-clause-others c = λ mount is. c.prepare_for.ensures.others mount (c.loop-relay.invariant.0 mount is)

pub returns-in_err-prepare_for-clause-seats : goal.returns-in_err-prepare_for-clause-seats
returns-in_err-prepare_for-clause-seats c = c.prepare_for.ensures.seats ∙ c.loop-relay.invariant.1

pub loop-relay-preserved : goal.loop-relay-preserved
loop-relay-preserved c = (
  λ mount is. c.prepare_for.ensures.others mount (c.loop-relay.invariant.0 mount is),
  c.prepare_for.ensures.seats ∙ c.loop-relay.invariant.1,
  λ mount feeds. still mount (c.loop-relay.invariant.2 mount feeds),
  c.prepare_for.ensures.live ∙ c.loop-relay.invariant.3,
) where
  left : drop c.loop-relay.relay-index c.args.relays.now ≡ c.relay-item.result ∷ drop (c.loop-relay.relay-index + 1) c.args.relays.now
  left =
      drop_more c.args.relays.now c.loop-relay.relay-index c.relay-item.result c.loop-relay-test.true
      ∙ ap (λ (r : RelaySetting). r ∷ drop (c.loop-relay.relay-index + 1) c.args.relays.now) (sym c.relay-item.is)

  now_or_later : (mount : List ℕ) → ((c.relay-item.result.on_demand ≡ true) × (c.relay-item.result.local_mount ≡ mount))
      ⊎ (feeds_on_demand (drop (c.loop-relay.relay-index + 1) c.args.relays.now) mount ≡ true)
      → (is_prepared c.prepare_for.new.seats.prepared mount ≡ true)
      ⊎ (feeds_on_demand (drop (c.loop-relay.relay-index + 1) c.args.relays.now) mount ≡ true)
  now_or_later mount (inl his) =
      inl (subst (λ (m : List ℕ). is_prepared c.prepare_for.new.seats.prepared m ≡ true) his.1 (c.in_ok-prepare_for.ensures.its his.0))
  now_or_later mount (inr later) = inr later

  still : (mount : List ℕ) → (is_prepared c.loop-relay.seats.prepared mount ≡ true)
      ⊎ (feeds_on_demand (drop c.loop-relay.relay-index c.args.relays.now) mount ≡ true)
      → (is_prepared c.prepare_for.new.seats.prepared mount ≡ true)
      ⊎ (feeds_on_demand (drop (c.loop-relay.relay-index + 1) c.args.relays.now) mount ≡ true)
  still mount (inl is) = inl (c.prepare_for.ensures.others mount is)
  still mount (inr rest) =
      now_or_later mount (first_or_other c.relay-item.result (drop (c.loop-relay.relay-index + 1) c.args.relays.now) mount
      (subst (λ (relays : List RelaySetting). feeds_on_demand relays mount ≡ true) left rest))

pub returns-clause-each : goal.returns-clause-each
returns-clause-each c = λ mount feeds. all mount (c.loop-relay.invariant.2 mount feeds) where
  none : drop c.loop-relay.relay-index c.args.relays.now ≡ []
  none = drop_all c.loop-relay.relay-index c.args.relays.now c.loop-relay-test.false

  all : (mount : List ℕ) → (is_prepared c.loop-relay.seats.prepared mount ≡ true)
      ⊎ (feeds_on_demand (drop c.loop-relay.relay-index c.args.relays.now) mount ≡ true)
      → is_prepared c.loop-relay.seats.prepared mount ≡ true
  all mount (inl is) = is
  all mount (inr rest) =
      let no : feeds_on_demand [] mount ≡ true = subst (λ (relays : List RelaySetting). feeds_on_demand relays mount ≡ true) none rest in cc

pub returns-clause-others : goal.returns-clause-others
returns-clause-others c = c.loop-relay.invariant.0

pub returns-clause-seats : goal.returns-clause-seats
returns-clause-seats c = c.loop-relay.invariant.1

pub returns-in_err-prepare_for-clause-live : goal.returns-in_err-prepare_for-clause-live
returns-in_err-prepare_for-clause-live c = c.prepare_for.ensures.live ∙ c.loop-relay.invariant.3

pub returns-clause-live : goal.returns-clause-live
returns-clause-live c = c.loop-relay.invariant.3
