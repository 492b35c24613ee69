-- The first key that is near, one after the other.
use Rattle.std.proofs.Common.{◌≡◌, ℕ, ◌+◌, ◌<◌, ◌≤◌, Bool, true, false, List, ◌∷◌, length, drop, get_or, map, Option, None, Some, refl, ap, sym, ◌∙◌}
use Rattle.std.specs.Prelude.{find, if◌then◌else◌}
use Rattle.std.specs.Option.{option_map}
use Rattle.std.proofs.lemmas.List.{drop_all, drop_more}
use Rattle.radio_keys.specs.declared.key.Key.{Key}
use Rattle.radio_settings.specs.declared.section.ValueKind.{ValueKind}
use Rattle.radio_settings.specs.Sections.{NamedContent, as_named}
use Rattle.radio_review.specs.Meant.{is_near, near}

abbrev pub Known : Type 0
Known = Key × ValueKind

abbrev pub near_of : ℕ → List ℕ → List Known → Option Key
near_of most name keys = near most name (map as_named keys)

-- none of the first i keys is near
abbrev pub NoneSoFar : ℕ → List ℕ → List Known → ℕ → Type 0
NoneSoFar most name keys i = near_of most name keys ≡ near_of most name (drop i keys)

pub none_yet : (most : ℕ) (name : List ℕ) (keys : List Known) → NoneSoFar most name keys 0
none_yet most name keys = refl

abbrev chosen : ℕ → List ℕ → Known → List Known → Bool → Option Key
chosen most name k rest b =
    option_map (λ (n : NamedContent). n.0) (if b then Some (as_named k) else find (is_near most name) (map as_named rest))

at_key : (most : ℕ) (name : List ℕ) (keys : List Known) (i : ℕ) (k : Known) → i < length keys → k ≡ get_or keys i k
    → near_of most name (drop i keys) ≡ chosen most name k (drop (i + 1) keys) (is_near most name (as_named k))
at_key most name keys i k low is = ap (near_of most name) (drop_more keys i k low ∙ ap (λ u. u ∷ drop (i + 1) keys) (sym is))

pub none_more : (most : ℕ) (name : List ℕ) (keys : List Known) (i : ℕ) (k : Known) → i < length keys → k ≡ get_or keys i k
    → is_near most name (as_named k) ≡ false → NoneSoFar most name keys i → NoneSoFar most name keys (i + 1)
none_more most name keys i k low is far so_far =
    so_far ∙ at_key most name keys i k low is ∙ ap (chosen most name k (drop (i + 1) keys)) far

pub found_here : (most : ℕ) (name : List ℕ) (keys : List Known) (i : ℕ) (k : Known) → i < length keys → k ≡ get_or keys i k
    → is_near most name (as_named k) ≡ true → NoneSoFar most name keys i → Some k.0 ≡ near_of most name keys
found_here most name keys i k low is here so_far =
    sym (so_far ∙ at_key most name keys i k low is ∙ ap (chosen most name k (drop (i + 1) keys)) here)

pub none_at_all : (most : ℕ) (name : List ℕ) (keys : List Known) (i : ℕ) → length keys ≤ i → NoneSoFar most name keys i
    → None ≡ near_of most name keys
none_at_all most name keys i past so_far = sym (so_far ∙ ap (near_of most name) (drop_all i keys past))
