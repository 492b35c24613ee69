-- What has had its time at a mount, in numbers.
use Rattle.std.proofs.Common.{◌≡◌, ℕ, ◌*◌, ◌-◌, ◌<◌, ◌≤◌, true, false, List, Option, Some, None, ltb, refl, sym, subst}
use Rattle.radio_parts_mount.proofs.Words.{◌↔◌, bytes_eq, option_map_or, bytes_eq-Decides, ltb-true, lt-ltb, leb-true, le-leb, and_parts, and_from, Seat, lies_back, lags_behind}

-- so many seconds or more, in milliseconds
pub lies_back_when : (seconds moment now : ℕ) → (lies_back seconds moment now ≡ true) ↔ (1000 * seconds ≤ now - moment)
lies_back_when seconds moment now = ((λ e. leb-true (1000 * seconds) (now - moment) e), (λ h. le-leb (1000 * seconds) (now - moment) h))

pub lags_when : (mount : List ℕ) (end queue : ℕ) (seat : Seat) → (lags_behind mount end queue seat ≡ true) ↔ ((seat.mount ≡ mount) × (queue < end - seat.place))
lags_when mount end queue seat = (
  (λ e. let p = and_parts (bytes_eq seat.mount mount) (ltb queue (end - seat.place)) e in
      ((bytes_eq-Decides seat.mount mount).0 p.0, ltb-true queue (end - seat.place) p.1)),
  (λ h. and_from (bytes_eq seat.mount mount) (ltb queue (end - seat.place)) ((bytes_eq-Decides seat.mount mount).1 h.0) (lt-ltb queue (end - seat.place) h.1)),
)

pub sat_out_when : (duration : Option ℕ) (since now : ℕ) → (option_map_or (λ seconds. lies_back seconds since now) duration false ≡ true)
    ↔ ((seconds : ℕ) × (duration ≡ Some seconds) × (1000 * seconds ≤ now - since))
sat_out_when None since now = ((λ e. cc), (λ h. absurd (let none : None ≡ Some h.0 = h.1 in cc)))
sat_out_when (Some seconds) since now = (
  (λ e. (seconds, refl, (lies_back_when seconds since now).0 e)),
  (λ h. let same : seconds ≡ h.0 = cc in (lies_back_when seconds since now).1 (subst (λ (n : ℕ). 1000 * n ≤ now - since) (sym same) h.2)),
)
