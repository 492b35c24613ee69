use Rattle.std.proofs.Common.{◌≡◌, ◌∙◌, rules, ap, length, refl}
use Rattle.std.proofs.lemmas.Fn.{filter_same}
use Rattle.radio_tries.proofs.Words.{kept_at}
use Rattle.radio_tries.proofs.tries.Tries.kept_places.Goals as goal

pub returns-clause-places : goal.returns-clause-places
returns-clause-places c =
    let kept : c.retain.new.self.items ≡ kept_at c.args.ms c.self.inside.kept_until.items =
    filter_same _ _ _ (λ x b f' k. search rules) _ _ c.retain.ensures.filtered in
    rw (kept, ← c.self.view_is) refl

pub returns-clause-count : goal.returns-clause-count
returns-clause-count c =
    let kept : c.retain.new.self.items ≡ kept_at c.args.ms c.self.inside.kept_until.items =
    filter_same _ _ _ (λ x b f' k. search rules) _ _ c.retain.ensures.filtered in
    let counted : c.len.result ≡ length c.retain.new.self.items = search rules in
    rw (← c.self.view_is) (counted ∙ ap length kept)
