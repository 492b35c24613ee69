use Rattle.std.proofs.Common.{ap, sym, ◌∙◌}
use Rattle.std.specs.Prelude.{is_some}
use Rattle.std.specs.BTreeMap.{is_at}
use Rattle.std.specs.Cmp.Lexicographic.{slice_cmp}
use Rattle.std.specs.Map.{lookup}
use Rattle.std.specs.Ordering.{nat_cmp}
use Rattle.std.specs.FinMap as finite
use Rattle.radio_creds.specs.UserList.{listed}
use Rattle.radio_creds.proofs.ListedLemmas.{get-listed, listed-removed}
use Rattle.radio_creds.proofs.user_list.Users.remove.Goals as goal

pub returns-clause-was_listed : goal.returns-clause-was_listed
returns-clause-was_listed c =
    c.is_some.ensures
    ∙ ap is_some (c.remove.ensures.value
    ∙ sym (get-listed (λ key. key.items) c.args.user.now c.self.inside.digests.entries)
    ∙ ap (λ users. finite.get users c.args.user.now) c.self.view_is)

pub returns-clause-without : goal.returns-clause-without
returns-clause-without c =
    ap (λ entries. finite.from_entries (listed (λ key. key.items) entries)) c.remove.ensures.entries
    ∙ listed-removed (λ key. key.items) c.args.user.now c.self.inside.digests.entries
    (sym (ap (λ entries. lookup (is_at (λ key. slice_cmp nat_cmp c.args.user.now key.items)) entries) c.remove.ensures.entries) ∙ c.remove.ensures.updates.1)
    ∙ ap (λ users. finite.remove users c.args.user.now) c.self.view_is
