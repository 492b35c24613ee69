use Rattle.std.proofs.Common.{refl, ⊎_elim}
use Rattle.radiod.proofs.log.reason_of.Goals as goal

pub returns-in-Usage : goal.returns-in-Usage
returns-in-Usage c =
    ⊎_elim (λ usage. rw usage (c.words_of.ensures _ refl))
    (⊎_elim (λ played. rw played.1 (c.words_of.ensures _ refl))
    (⊎_elim (λ served. rw served.1 (c.words_of.ensures _ refl))
    (⊎_elim (λ warned. rw warned (c.words_of.ensures _ refl)) (λ none. rw none (c.words_of.ensures _ refl)))))
    c.in-Usage.is
