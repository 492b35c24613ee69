use Rattle.std.proofs.Common.{ℕ, List, [], ◌∷◌, ◌++◌, ap, sym, ◌∙◌}
use Rattle.radio_tries.proofs.Words.{RelaySetting, stopped_by, own_of, other_started_relays}
use Rattle.radio_tries.proofs.Orders.{stopped-append, own-append, others-append}
use Rattle.radio_tries.proofs.wishes.sorted_by.Goals as goal

pub orders-preserved : goal.orders-preserved
orders-preserved c =
    let settings = c.args.settings.now in
    let past = c.orders.yielded in
    let this = c.in-Some.order ∷ [] in
    record {
      stops = c.in_ok-add.ensures.stops ∙ ap (λ (xs : List (List ℕ)). xs ++ stopped_by this) c.orders.invariant.stops ∙ sym (stopped-append past this);
      own = c.in_ok-add.ensures.own ∙ ap (λ (xs : List RelaySetting). xs ++ own_of settings this) c.orders.invariant.own ∙ sym (own-append settings past this);
      listed = c.in_ok-add.ensures.listed ∙ ap (λ (xs : List RelaySetting). xs ++ other_started_relays settings this) c.orders.invariant.listed ∙ sym (others-append settings past this);
    }
