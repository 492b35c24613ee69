use Rattle.std.proofs.Common.{ap, sym, ◌∙◌}
use Rattle.std.specs.FinMap as finite
use Rattle.radio_creds.proofs.ListedLemmas.{get-listed}
use Rattle.radio_creds.proofs.user_list.Users.digest_of.Goals as goal

pub returns : goal.returns
returns c =
    c.get.ensures.value
    ∙ sym (get-listed (λ key. key.items) c.args.user.now c.self.inside.digests.entries)
    ∙ ap (λ users. finite.get users c.args.user.now) c.self.view_is
