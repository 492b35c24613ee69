-- What is taken through a pass of an intake, step after step.
use Rattle.std.proofs.Common.{◌≡◌, refl, sym, ◌∙◌, ap, [], ◌∷◌, ◌++◌, append-nil, append_assoc}
use Rattle.radio_workers.proofs.Words.{PassRecord, HasTakenMore}

module _ {L : Type 0} where
  pub taken_none : (pass : PassRecord L) → HasTakenMore pass pass
  taken_none pass = record { intake = refl; parts = refl; put = refl; more = []; taken = sym (append-nil pass.taken) }

  pub taken_then : (first second third : PassRecord L) → HasTakenMore first second → HasTakenMore second third → HasTakenMore first third
  taken_then first second third a b = record {
    intake = b.intake ∙ a.intake;
    parts = b.parts ∙ a.parts;
    put = b.put ∙ a.put;
    more = a.more ++ b.more;
    taken = b.taken ∙ (ap (λ xs. xs ++ b.more) a.taken ∙ append_assoc first.taken a.more b.more);
  }

  pub taken_one : (pass now : PassRecord L) (line : L) → now ≡ record pass { taken = pass.taken ++ line ∷ [] } → HasTakenMore pass now
  taken_one pass now line e = record { intake = ap (λ t. t.intake) e; parts = ap (λ t. t.parts) e; put = ap (λ t. t.put) e; more = line ∷ []; taken = ap (λ t. t.taken) e }
