use Rattle.std.proofs.Common.{◌≡◌, rules, refl}
use Rattle.std.specs.Prelude.{filter}
use Rattle.std.proofs.lemmas.Map.Made.{filter_same_pairs}
use Rattle.radio_tries.proofs.Words.{is_wanted_relay}
use Rattle.radio_tries.proofs.tries.Tries.forget_others.Goals as goal

pub returns : goal.returns
returns c =
    let kept : c.retain.new.self.entries ≡ filter (λ e. is_wanted_relay c.args.settings.now c.args.names.now.keys e.0) c.self.inside.tried.entries =
    filter_same_pairs _ _ _ (λ k v b w f' t. search rules) _ _ c.retain.ensures.filtered in
    rw (kept, ← c.self.view_is) refl
