-- What a client's events bring, gathered over a course, is what the entries on its connection bring.
use Rattle.std.proofs.Common.{◌≡◌, ◌⊎◌, inl, inr, ℕ, ◌==◌, Bool, true, false, List, [], ◌∷◌, ◌++◌, Option, None, Some, refl, ap, sym, ◌∙◌, arith}
use Rattle.radio_headline.proofs.Words.{if◌then◌else◌, AllByRecursion, nat_tests, Entry, Event, client_in, is_same_number, world_after, World, Happening, applied_entry, log_on}
use Rattle.std.specs.Prelude.{flat_map}
use Rattle.radio_headline.proofs.Logs.{Each, itself}

-- the events of the client are those on its connection
counts_as : (id : ℕ) (event : Event) → is_same_number id (client_in event) ≡ true → client_in event ≡ Some id
counts_as id event h = by_client (client_in event) refl where
  by_client : (c : Option ℕ) → client_in event ≡ c → client_in event ≡ Some id
  by_client None e = let no : false ≡ true = ap (is_same_number id) (sym e) ∙ h in cc
  by_client (Some him) e = e ∙ ap (λ (n : ℕ). Some n) (same him (ap (is_same_number id) (sym e) ∙ h)) where
    same : (him : ℕ) → (him == id) ≡ true → him ≡ id
    same him k = grind (arith, nat_tests)

abbrev pub IsOnIt : ℕ → ℕ → Happening → Type 0
IsOnIt label id h = client_in h.event ≡ Some id → is_same_number label h.label ≡ true

module _ {X : Type 0} (brings : Entry → List X) where
  -- it is of the client, or brings nothing
  abbrev pub IsHisOrNothing : ℕ → Entry → Type 0
  IsHisOrNothing id e = (client_in e.event ≡ Some id) ⊎ (brings e ≡ [])

  -- what the client's events bring, in their order
  abbrev pub brought_to : World → List Happening → ℕ → List X
  brought_to w [] id = []
  brought_to w (h ∷ past) id = (if is_same_number id (client_in h.event) then brings (applied_entry w h.event) else []) ++ brought_to (world_after w h.event) past id

  pub gathered : (w : World) (past : List Happening) (label id : ℕ) → AllByRecursion (IsOnIt label id) past
      → Each (IsHisOrNothing id) (log_on w past label) → brought_to w past id ≡ flat_map brings (log_on w past label)
  gathered w [] label id on his = refl
  gathered w (h ∷ past) label id on his =
      by_tests (gathered (world_after w h.event) past label id on.1) (is_same_number label h.label) refl (is_same_number id (client_in h.event)) refl his where
        by_tests : (Each (IsHisOrNothing id) (log_on (world_after w h.event) past label)
            → brought_to (world_after w h.event) past id ≡ flat_map brings (log_on (world_after w h.event) past label))
            → (b : Bool) → is_same_number label h.label ≡ b → (c : Bool) → is_same_number id (client_in h.event) ≡ c
            → Each (IsHisOrNothing id) ((if b then applied_entry w h.event ∷ [] else []) ++ log_on (world_after w h.event) past label)
            → (if c then brings (applied_entry w h.event) else []) ++ brought_to (world_after w h.event) past id
            ≡ flat_map brings ((if b then applied_entry w h.event ∷ [] else []) ++ log_on (world_after w h.event) past label)
        by_tests ih true e true f k = ap (λ (xs : List X). brings (applied_entry w h.event) ++ xs) (ih k.1)
        by_tests ih true e false f k =
            ih k.1 ∙ ap (λ (xs : List X). xs ++ flat_map brings (log_on (world_after w h.event) past label)) (sym (none k.0)) where
              none : IsHisOrNothing id (applied_entry w h.event) → brings (applied_entry w h.event) ≡ []
              none (inl mine) =
                  let yes : is_same_number id (client_in h.event) ≡ true = ap (is_same_number id) mine ∙ itself id in
                  let no : true ≡ false = sym yes ∙ f in
                  cc
              none (inr d) = d
        by_tests ih false e true f k = let no : true ≡ false = sym (on.0 (counts_as id h.event f)) ∙ e in cc
        by_tests ih false e false f k = ih k
