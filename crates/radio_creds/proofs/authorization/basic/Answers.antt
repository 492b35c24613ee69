use Rattle.std.proofs.Common.{◌≡◌, None, Some, sym, ap, ◌∙◌}
use Rattle.std.specs.Option.{option_copied, option_map}
use Rattle.radio_creds.specs.Authorization.{basic_pair}
use Rattle.radio_creds.proofs.AuthorizationLemmas.{basic_pair-no_text, basic_pair-text, none-exact, found-exact}
use Rattle.radio_creds.proofs.authorization.basic.Goals as goal

-- no text of the scheme
no_text : (c : goal.In_default) → basic_pair c.args.value.now ≡ None
no_text c = basic_pair-no_text c.args.value.now (sym c.basic_text.ensures ∙ ap option_copied c.in_default.is)

pub returns-in_default-clause-exact : goal.returns-in_default-clause-exact
returns-in_default-clause-exact c = none-exact c.cuts.ensures.first c.args.value.now (no_text c)

pub returns-in_default-clause-pair : goal.returns-in_default-clause-pair
returns-in_default-clause-pair c = sym (no_text c)

-- no base64 in the text
no_bytes : (c : goal.In_default-2) → basic_pair c.args.value.now ≡ None
no_bytes c =
    basic_pair-text c.args.value.now c.in-Some.text.now None (sym c.basic_text.ensures ∙ ap option_copied c.in-Some.is)
    (sym c.in_ok-credentials.ensures.value ∙ ap (option_map (λ v. v.items)) c.in_default-2.is)

pub returns-in_default-2-clause-exact : goal.returns-in_default-2-clause-exact
returns-in_default-2-clause-exact c = none-exact c.cuts.ensures.first c.args.value.now (no_bytes c)

pub returns-in_default-2-clause-pair : goal.returns-in_default-2-clause-pair
returns-in_default-2-clause-pair c = sym (no_bytes c)

pub returns-clause-exact : goal.returns-clause-exact
returns-clause-exact c =
    found-exact c.cuts.ensures.first c.args.value.now c.in-Some.text.now c.in-Some-2.credentials.items c.of_text.result
    (sym c.basic_text.ensures ∙ ap option_copied c.in-Some.is)
    (rw c.in-Some-2.is at c.in_ok-credentials.ensures.encoded)
    (rw c.in-Some-2.is at c.in_ok-credentials.ensures.bytes)
    (sym c.in_ok-credentials.ensures.value ∙ ap (option_map (λ v. v.items)) c.in-Some-2.is)
    c.of_text.ensures

pub returns-clause-pair : goal.returns-clause-pair
returns-clause-pair c =
    c.of_text.ensures
    ∙ sym (basic_pair-text c.args.value.now c.in-Some.text.now (Some c.in-Some-2.credentials.items) (sym c.basic_text.ensures ∙ ap option_copied c.in-Some.is)
    (sym c.in_ok-credentials.ensures.value ∙ ap (option_map (λ v. v.items)) c.in-Some-2.is))
