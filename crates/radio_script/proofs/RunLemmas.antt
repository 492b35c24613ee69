-- How a run goes on, delivery after delivery.
use Rattle.std.proofs.Common.{ℕ, ◌+◌, inl, inr, List, [], ◌∷◌, ◌++◌, Option, None, Some, refl, sym, subst, append-nil, append_assoc}
use Rattle.radio_script.proofs.Words.{Delivery, Conduct, Runs}

-- After the text so far, what the remaining deliveries yield from the performer new is what all deliveries yield from old.
abbrev pub RunsOn : {P : Type 0} → Conduct P → P → List Delivery → P → ℕ → List Delivery → List ℕ → Type 0
RunsOn {P} performs old all new number left so_far =
    (text : List ℕ) (stop : Option ℕ) (last : P) → Runs performs new number left text stop last → Runs performs old 1 all (so_far ++ text) stop last

pub RunsOn-more : {P : Type 0} (performs : Conduct P) (old : P) (all : List Delivery) (new : P) (number : ℕ) (delivery : Delivery) (left : List Delivery)
    (so_far first : List ℕ) (next : P)
    → RunsOn performs old all new number (delivery ∷ left) so_far → performs new delivery (Some first) next
    → RunsOn performs old all next (number + 1) left (so_far ++ first)
RunsOn-more performs old all new number delivery left so_far first next on performed =
    λ text stop last run.
    subst (λ x. Runs performs old 1 all x stop last) (sym (append_assoc so_far first text))
    (on (first ++ text) stop last (inr (record { first = first; rest = text; between = next; performed = performed; parts = refl; others = run })))

pub RunsOn-stops : {P : Type 0} (performs : Conduct P) (old : P) (all : List Delivery) (new : P) (number : ℕ) (delivery : Delivery) (left : List Delivery)
    (so_far : List ℕ) (last : P)
    → RunsOn performs old all new number (delivery ∷ left) so_far → performs new delivery None last
    → Runs performs old 1 all (so_far ++ []) (Some number) last
RunsOn-stops performs old all new number delivery left so_far last on refused =
    on [] (Some number) last (inl (record { refused = refused; nothing = refl; here = refl }))

pub RunsOn-all : {P : Type 0} (performs : Conduct P) (old : P) (all : List Delivery) (new : P) (number : ℕ) (so_far : List ℕ)
    → RunsOn performs old all new number [] so_far → Runs performs old 1 all so_far None new
RunsOn-all performs old all new number so_far on =
    subst (λ x. Runs performs old 1 all x None new) (append-nil so_far) (on [] None new (refl, refl, refl))
