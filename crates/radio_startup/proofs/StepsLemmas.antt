-- Lists to which parts are added, one after another.
use Rattle.std.proofs.Common.{◌≡◌, List, ◌++◌, ap, ◌∙◌, append_assoc}

-- three parts
pub added_three : {X : Type 0} (old a b c one two three : List X) → one ≡ old ++ a → two ≡ one ++ b → three ≡ two ++ c → three ≡ old ++ ((a ++ b) ++ c)
added_three old a b c one two three first second third =
    third ∙ ap (λ xs. xs ++ c) (second ∙ ap (λ xs. xs ++ b) first ∙ append_assoc old a b) ∙ append_assoc old (a ++ b) c
