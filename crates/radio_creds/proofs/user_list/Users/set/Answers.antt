use Rattle.std.proofs.Common.{ap, ◌∙◌}
use Rattle.std.specs.FinMap as finite
use Rattle.radio_creds.specs.UserList.{listed}
use Rattle.radio_creds.proofs.ListedLemmas.{listed-inserted}
use Rattle.radio_creds.proofs.user_list.Users.set.Goals as goal

pub returns-clause-ok : goal.returns-clause-ok
returns-clause-ok c =
    ap (λ entries. finite.from_entries (listed (λ key. key.items) entries)) c.in_ok-insert.ensures.entries
    ∙ listed-inserted (λ key. key.items) c.in_ok-user.user c.digest.result c.self.inside.digests.entries
    ∙ ap (λ users. finite.insert users c.in_ok-user.user.items c.digest.result) c.self.view_is
    ∙ ap (λ user. finite.insert c.args.self.now user c.digest.result) c.in_ok-user.ensures.items
    ∙ ap (finite.insert c.args.self.now c.args.user.now) c.digest.ensures
