-- whose an event is, and what it brings
use Rattle.std.proofs.Common.{◌≡◌, true, false, ℕ, ◌==◌, Bool, Option, Some, None, List, [], refl, ap, sym, ◌∙◌, arith}
use Rattle.radio_core.proofs.Words.{if◌then◌else◌, nat_tests, by_number, Event, is_same_number, of_client, client_in}

-- an event is of this client, or not
pub by_own : {A : Type 0} (event : Event) (id : ℕ) → (client_in event ≡ Some id → A)
    → ((client_in event ≡ Some id → ⊥) → is_same_number id (client_in event) ≡ false → A) → A
by_own {A} event id own other = by_client (client_in event) refl where
  by_client : (client : Option ℕ) → client_in event ≡ client → A
  by_client None e = other (λ h. cc) (ap (is_same_number id) e)
  by_client (Some him) e =
      by_number him id
      (λ same. own (e ∙ ap (λ (n : ℕ). Some n) same))
      (λ apart. other (λ h. let both : Some him ≡ Some id = sym e ∙ h in let one : him ≡ id = cc in let itself : (him == id) ≡ true =
      grind (arith, nat_tests) in cc) (ap (is_same_number id) e ∙ apart))

pub not_of : {A : Type 0} (event : Event) (id : ℕ) (brought : List A) → is_same_number id (client_in event) ≡ false → of_client event id brought ≡ []
not_of event id brought e = rw e refl

pub nothing_of : {A : Type 0} (event : Event) (id : ℕ) (brought : List A) → brought ≡ [] → of_client event id brought ≡ []
nothing_of {A} event id brought e = either (is_same_number id (client_in event)) brought e where
  either : (b : Bool) (xs : List A) → xs ≡ [] → (if b then xs else []) ≡ []
  either true xs none = none
  either false xs none = refl
