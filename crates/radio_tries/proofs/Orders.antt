-- What orders say that come one after another.
use Rattle.std.proofs.Common.{◌≡◌, ℕ, List, [], ◌∷◌, ◌++◌, Bool, not, filter, refl, ap, ◌∙◌}
use Rattle.std.proofs.lemmas.List.Elements.{filter-append}
use Rattle.radio_relay.specs.declared.orders.RelayOrder.{RelayOrder}
use Rattle.radio_relay.specs.declared.orders.RelayOrder.TheVariants.{Start, Stop}
use Rattle.radio_tries.proofs.Words.{RelaySetting, started_by, stopped_by, own_of, other_started_relays, is_settings_relay}
use Rattle.radio_settings_values.specs.declared.settings.Settings.{Settings}

pub stopped-append : (xs ys : List RelayOrder) → stopped_by (xs ++ ys) ≡ stopped_by xs ++ stopped_by ys
stopped-append [] ys = refl
stopped-append (Stop mount ∷ xs) ys = ap (λ (rest : List (List ℕ)). mount ∷ rest) (stopped-append xs ys)
stopped-append (Start relay ∷ xs) ys = stopped-append xs ys

started-append : (xs ys : List RelayOrder) → started_by (xs ++ ys) ≡ started_by xs ++ started_by ys
started-append [] ys = refl
started-append (Stop mount ∷ xs) ys = started-append xs ys
started-append (Start relay ∷ xs) ys = ap (λ (rest : List RelaySetting). relay ∷ rest) (started-append xs ys)

pub own-append : (settings : Settings) (xs ys : List RelayOrder) → own_of settings (xs ++ ys) ≡ own_of settings xs ++ own_of settings ys
own-append settings xs ys =
    ap (filter (is_settings_relay settings)) (started-append xs ys) ∙ filter-append (is_settings_relay settings) (started_by xs) (started_by ys)

pub others-append : (settings : Settings) (xs ys : List RelayOrder) → other_started_relays settings (xs ++ ys) ≡ other_started_relays settings xs ++ other_started_relays settings ys
others-append settings xs ys =
    let other : RelaySetting → Bool = λ relay. not (is_settings_relay settings relay) in
    ap (filter other) (started-append xs ys) ∙ filter-append other (started_by xs) (started_by ys)
