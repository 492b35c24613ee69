-- Runs of deliveries.
use Rattle.std.specs.Prelude.{ℕ, ◌+◌, ◌≡◌, ◌⊎◌, List, [], ◌∷◌, ◌++◌, Option, None, Some}
use Rattle.radio_script.specs.declared.delivery.Delivery.{Delivery}

-- What performers do. From one performer a delivery yields a text, or None if the performer refuses it, and
-- leaves the next performer.
abbrev pub Conduct : Type 0 → Type 1
Conduct P = P → Delivery → Option (List ℕ) → P → Type 0

-- A performer gets a delivery.
module _ {P : Type 0} (performs : Conduct P) (old : P) where
  -- It refuses the delivery: nothing is written, and the run stops at its number.
  pub record Stops (number : ℕ) (delivery : Delivery) (text : List ℕ) (stop : Option ℕ) (new : P) : Type 0 where
    pub refused : performs old delivery None new
    pub nothing : text ≡ []
    pub here : stop ≡ Some number

  -- The delivery yields the first part of the text, and the others yield the rest.
  pub record YieldsFirst (delivery : Delivery) (text : List ℕ) (Others : P → List ℕ → Type 0) : Type 0 where
    pub first : List ℕ
    pub rest : List ℕ
    pub between : P
    pub performed : performs old delivery (Some first) between
    pub parts : text ≡ first ++ rest
    pub others : Others between rest

-- From the performer old to new, the deliveries yield the text, one after another. The first has this number.
-- The run stops at the number of the first delivery that is refused, if there is one.
abbrev pub Runs : {P : Type 0} → Conduct P → P → ℕ → List Delivery → List ℕ → Option ℕ → P → Type 0
Runs performs old number [] text stop new = (text ≡ []) × (stop ≡ None) × (new ≡ old)
Runs performs old number (delivery ∷ deliveries) text stop new =
    Stops performs old number delivery text stop new
    ⊎ YieldsFirst performs old delivery text
    (λ between rest. Runs performs between (number + 1) deliveries rest stop new)
