-- What several pushes, one after another, make.
use Rattle.std.proofs.Common.{◌≡◌, List, [], ◌++◌, ℕ, ap, ◌∙◌}

-- pushes onto an empty text, of which the last is of two parts
pub pushed_with_end : (s t u v w y : List ℕ) (a b c d e f : List ℕ) → s ≡ [] → t ≡ s ++ a → u ≡ t ++ b → v ≡ u ++ c
    → w ≡ v ++ d → y ≡ w ++ e ++ f → y ≡ a ++ b ++ c ++ d ++ e ++ f
pushed_with_end s t u v w y a b c d e f p q r k l m =
    m ∙ ap (λ (z : List ℕ). z ++ e ++ f) (l ∙ ap (λ (z : List ℕ). z ++ d)
    (k ∙ ap (λ (z : List ℕ). z ++ c) (r ∙ ap (λ (z : List ℕ). z ++ b) (q ∙ ap (λ (z : List ℕ). z ++ a) p))))
