use Rattle.std.proofs.Common.{ap, sym, ◌∙◌}
use Rattle.std.specs.FinMap as finite
use Rattle.std.specs.Option.{option_map}
use Rattle.radio_creds.specs.UserList.{listed}
use Rattle.radio_creds.proofs.ListedLemmas.{listed-inserted, with_new_line}
use Rattle.radio_creds.proofs.user_list.Users.add_line.Goals as goal

pub returns : goal.returns
returns c =
    ap (λ entries. finite.from_entries (listed (λ key. key.items) entries)) c.in_ok-insert.ensures.entries
    ∙ listed-inserted (λ key. key.items) c.in_ok-user.user c.in-Some.listed.1 c.self.inside.digests.entries
    ∙ ap (λ users. finite.insert users c.in_ok-user.user.items c.in-Some.listed.1) c.self.view_is
    ∙ ap (λ user. finite.insert c.args.self.now user c.in-Some.listed.1) c.in_ok-user.ensures.items
    ∙ sym (with_new_line c.args.self.now _ c.in-Some.listed.0.now c.in-Some.listed.1
    (sym c.user_line.ensures ∙ ap (option_map (λ listed. (listed.0.now, listed.1))) c.in-Some.is) (sym c.if-has.ensures))
