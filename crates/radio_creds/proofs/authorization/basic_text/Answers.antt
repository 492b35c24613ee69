use Rattle.std.proofs.Common.{◌≡◌, sym, ap, ◌∙◌, get_or, map, take, arith, Some}
use Rattle.std.specs.Prelude.{codes}
use Rattle.std.specs.Char.{to_ascii_lowercase}
use Rattle.std.proofs.lemmas.List.{get_or-drop, get_or_past}
use Rattle.std.proofs.lemmas.Bool.{false≢true}
use Rattle.radio_creds.specs.Authorization.{without_spaces}
use Rattle.radio_creds.proofs.AuthorizationLemmas.{basic_text-scheme, basic_text-other_scheme, basic_text-no_space}
use Rattle.radio_creds.proofs.authorization.basic_text.Goals.{then-not-eq_ignore_ascii_case-via-then-not-eq_ignore_ascii_case}
use Rattle.radio_creds.proofs.authorization.basic_text.Goals.{then-not-eq_ignore_ascii_case-via-else-not-eq_ignore_ascii_case+then-rest-ne32}
use Rattle.radio_creds.proofs.authorization.basic_text.Goals as goal

pub returns-then-value : goal.returns-then-value
returns-then-value c =
    let short : get_or c.args.value.now 5 0 ≡ 0 = get_or_past c.args.value.now 5 0 (omega (arith, c.if-value.true)) in
    sym (basic_text-no_space c.args.value.now (λ is. omega (arith, short, is)))

pub returns-then-not-eq_ignore_ascii_case : goal.returns-then-not-eq_ignore_ascii_case
returns-then-not-eq_ignore_ascii_case c =
    elim c.then-not-eq_ignore_ascii_case.branch [
      | then-not-eq_ignore_ascii_case-via-then-not-eq_ignore_ascii_case w ↦ sym (basic_text-other_scheme c.args.value.now (λ is.
          false≢true (sym w.if-not-eq_ignore_ascii_case.true ∙ c.eq_ignore_ascii_case.ensures.test.1
          (ap (map to_ascii_lowercase) c.split_at.ensures.front ∙ is))))
      | then-not-eq_ignore_ascii_case-via-else-not-eq_ignore_ascii_case+then-rest-ne32 w ↦ sym (basic_text-no_space c.args.value.now (λ is.
          w.if-rest-ne32.true (ap (λ rest. get_or rest 0 0) c.split_at.ensures.back ∙ get_or-drop 5 c.args.value.now 0 0 ∙ is)))
    ]

pub returns : goal.returns
returns c =
    let scheme : map to_ascii_lowercase (take 5 c.args.value.now) ≡ codes "basic"
    = ap (map to_ascii_lowercase) (sym c.split_at.ensures.front) ∙ c.eq_ignore_ascii_case.ensures.test.0 c.if-not-eq_ignore_ascii_case.false in
    let one : get_or c.args.value.now 5 0 ≡ 32
    = sym (get_or-drop 5 c.args.value.now 0 0) ∙ ap (λ rest. get_or rest 0 0) (sym c.split_at.ensures.back) ∙ c.if-rest-ne32.false in
    ap Some (c.without_spaces.ensures ∙ ap without_spaces c.split_at.ensures.back) ∙ sym (basic_text-scheme c.args.value.now scheme one)
