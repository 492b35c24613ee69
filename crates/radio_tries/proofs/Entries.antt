-- A map's entries, of which the value at one key is replaced.
use Rattle.std.proofs.Common.{◌≡◌, Bool, true, false, List, [], ◌∷◌, Some, None, refl, ap, sym, ◌∙◌}
use Rattle.std.specs.Map.{lookup, set_value}

module _ {K X : Type 0} (test : K → Bool) (w : X) where
  unset_at : (e : K × X) (es : List (K × X)) (b : Bool) → test e.0 ≡ b → (lookup test es ≡ None → set_value test es w ≡ es)
      → lookup test (e ∷ es) ≡ None → set_value test (e ∷ es) w ≡ e ∷ es
  unset_at e es true t later none =
      let found : lookup test (e ∷ es) ≡ Some e.1 = rw t refl in
      cc
  unset_at e es false t later none =
      let past : lookup test (e ∷ es) ≡ lookup test es = rw t refl in
      rw t (ap (λ rest. e ∷ rest) (later (sym past ∙ none)))

  -- if no key passes, nothing is replaced
  pub unset : (es : List (K × X)) → lookup test es ≡ None → set_value test es w ≡ es
  unset [] none = refl
  unset (e ∷ es) none = unset_at e es (test e.0) refl (unset es) none
