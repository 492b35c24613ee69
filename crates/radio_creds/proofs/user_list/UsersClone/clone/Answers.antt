use Rattle.std.proofs.Common.{rules, ap, ◌∙◌}
use Rattle.std.proofs.lemmas.List.Elements.{same_from_all_zip}
use Rattle.std.specs.FinMap as finite
use Rattle.radio_creds.proofs.ListedLemmas.{listed-cloned}
use Rattle.radio_creds.proofs.user_list.UsersClone.clone.Goals as goal

pub returns : goal.returns
returns c = record {
  cases = ap (λ entries. finite.from_entries entries) (listed-cloned (λ key. key.items) _ _ (λ k l same. search (rules, same_from_all_zip))
      (λ v w same. search (rules, same_from_all_zip)) _ _ c.in_ok-clone.ensures.cases)
      ∙ c.self.view_is;
}
