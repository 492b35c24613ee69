-- What the definitions of a user list mean.
use Rattle.std.proofs.Common.{◌≡◌, ℕ, true, false, cond, List, [], ◌∷◌, ◌++◌, get_or, Option, None, Some, Result, Ok, Err, refl, sym}
use Rattle.std.proofs.Common.{ap, subst, ◌∙◌}
use Rattle.std.specs.Prelude.{◌||◌}
use Rattle.std.specs.Ordering.{nat_cmp}
use Rattle.std.specs.Cmp.Lexicographic.{slice_cmp, nat_list_cmp_total}
use Rattle.std.specs.FinMap as finite
use Rattle.std.specs.FinMap.{find, get-from_entries}
use Rattle.std.specs.List.{Contains}
use Rattle.std.specs.Option.{is_some, unwrap_or, option_map, option_and_then}
use Rattle.std.specs.Result.{result_ok}
use Rattle.std.specs.Str.{bytes_eq}
use Rattle.std.proofs.lemmas.Bool.{false≢true}
use Rattle.std.proofs.lemmas.Bool.Decides.{Decides-eqb}
use Rattle.std.proofs.lemmas.Map.Text.{is_eq-slice_cmp}
use Rattle.std.proofs.lemmas.Slice.Eq.{bytes_eq-Decides}
use Rattle.hex.specs.Hex.{decode_sized}
use Rattle.radio_creds.specs.Credentials.{colon}
use Rattle.radio_creds.specs.UserLine.{IsUserLine, user_line, digest_written, hash}
use Rattle.radio_creds.specs.UserList.{IsFirstOf, has_line_of, has_user, user_lines, users_of}
use Rattle.radio_creds.proofs.ColonLemmas.{CutsFirst}
use Rattle.radio_texts.specs.Cuts.{cut}
use Rattle.radio_creds.proofs.AuthorizationLemmas.{is_false}

-- ---- the first line of a user

found_here : (user : List ℕ) (e : List ℕ × List ℕ) (es : List (List ℕ × List ℕ))
    → find (slice_cmp nat_cmp) user (e ∷ es) ≡ cond (bytes_eq user e.0) (Some e.1) (find (slice_cmp nat_cmp) user es)
found_here user e es = ap (λ b. cond b (Some e.1) (find (slice_cmp nat_cmp) user es)) (is_eq-slice_cmp user e.0)

is_first-found : (user digest : List ℕ) (entries : List (List ℕ × List ℕ)) → find (slice_cmp nat_cmp) user entries ≡ Some digest
    → IsFirstOf entries user digest
is_first-found user digest [] h = absurd (false≢true (ap is_some h))
is_first-found user digest (e ∷ es) h =
    elim (bytes_eq user e.0) as (λ b. bytes_eq user e.0 ≡ b → cond b (Some e.1) (find (slice_cmp nat_cmp) user es) ≡ Some digest
    → IsFirstOf (e ∷ es) user digest) [
      | true ↦ λ same is. record {
        before = [];
        after = es;
        are_lines = ap (λ u. (u, e.1) ∷ es) (sym ((bytes_eq-Decides user e.0).0 same)) ∙ ap (λ d. (user, d) ∷ es) (ap (λ o. unwrap_or o digest) is);
        none_before = refl;
      }
      | false ↦ λ other is. let later = is_first-found user digest es is in record {
        before = e ∷ later.before;
        after = later.after;
        are_lines = ap (λ lines. e ∷ lines) later.are_lines;
        none_before = ap (λ b. b || has_line_of user later.before) other ∙ later.none_before;
      }
    ] refl (sym (found_here user e es) ∙ h)

found-after : (user digest : List ℕ) (before after : List (List ℕ × List ℕ)) → has_line_of user before ≡ false
    → find (slice_cmp nat_cmp) user (before ++ (user, digest) ∷ after) ≡ Some digest
found-after user digest [] after none =
    found_here user (user, digest) after ∙ ap (λ b. cond b (Some digest) (find (slice_cmp nat_cmp) user after)) ((bytes_eq-Decides user user).1 refl)
found-after user digest (e ∷ before) after none =
    elim (bytes_eq user e.0) as (λ b. bytes_eq user e.0 ≡ b → (b || has_line_of user before) ≡ false
    → find (slice_cmp nat_cmp) user (e ∷ (before ++ (user, digest) ∷ after)) ≡ Some digest) [
      | true ↦ λ same is. absurd (false≢true (sym is))
      | false ↦ λ other is. found_here user e (before ++ (user, digest) ∷ after)
          ∙ ap (λ b. cond b (Some e.1) (find (slice_cmp nat_cmp) user (before ++ (user, digest) ∷ after))) other
          ∙ found-after user digest before after is
    ] refl none

pub users_of-first : (text user digest : List ℕ)
    → (finite.get (users_of text) user ≡ Some digest → IsFirstOf (user_lines text) user digest)
    × (IsFirstOf (user_lines text) user digest → finite.get (users_of text) user ≡ Some digest)
users_of-first text user digest =
    let look_up : finite.get (users_of text) user ≡ find (slice_cmp nat_cmp) user (user_lines text) = get-from_entries nat_list_cmp_total
    (user_lines text) user in (
      λ h. is_first-found user digest (user_lines text) (sym look_up ∙ h),
      λ is. look_up ∙ ap (find (slice_cmp nat_cmp) user) is.are_lines ∙ found-after user digest is.before is.after is.none_before,
    )

is_some-found : (user : List ℕ) (entries : List (List ℕ × List ℕ)) → is_some (find (slice_cmp nat_cmp) user entries) ≡ has_line_of user entries
is_some-found user [] = refl
is_some-found user (e ∷ es) =
    ap is_some (found_here user e es)
    ∙ elim (bytes_eq user e.0) as (λ b. is_some (cond b (Some e.1) (find (slice_cmp nat_cmp) user es)) ≡
    (b || has_line_of user es)) [ true ↦ refl | false ↦ is_some-found user es ]

pub users_of-has : (text user : List ℕ) → has_user (users_of text) user ≡ has_line_of user (user_lines text)
users_of-has text user = ap is_some (get-from_entries nat_list_cmp_total (user_lines text) user) ∙ is_some-found user (user_lines text)

-- ---- a line of a user

was_ok : {E : Type 0} (r : Result (List ℕ) E) (digest : List ℕ) → result_ok r ≡ Some digest → r ≡ Ok digest
was_ok (Ok x) digest h = ap (λ o. Ok (unwrap_or o digest)) h
was_ok (Err e) digest h = absurd (false≢true (ap is_some h))

-- a user and a digest
abbrev listed_as : List ℕ → List ℕ → List ℕ × List ℕ
listed_as user digest = (user, digest)

-- the parts of a line at its colon
abbrev listed_from : List ℕ × List ℕ → Option (List ℕ × List ℕ)
listed_from parts = option_map (listed_as parts.0) (digest_written parts.1)

digest_at : (line front digits user digest : List ℕ) → (line ≡ front ++ colon ∷ digits) × (Contains front colon → ⊥)
    → listed_from (front, digits) ≡ Some (user, digest) → (get_or line 0 0 ≡ hash → ⊥) → IsUserLine line user digest
digest_at line front digits user digest at h apart =
    elim (digest_written digits) as (λ o. digest_written digits ≡ o
    → option_map (listed_as front) o ≡ Some (listed_as user digest) → IsUserLine line user digest) [
      | None ↦ λ is e. absurd (false≢true (ap is_some e))
      | Some found ↦ λ is e.
          let both : ◌≡◌ {A = List ℕ × List ℕ} (listed_as front found) (listed_as user digest) = ap (λ o. unwrap_or o (listed_as user digest)) e in
          subst (λ (p : List ℕ × List ℕ). IsUserLine line p.0 p.1) both (record {
            digits = digits;
            is_line = at.0;
            no_colon = at.1;
            no_comment = apart;
            is_digest = was_ok (decode_sized digits 16) found is;
          })
    ] refl h

user_line-past_hash : (line : List ℕ) → (get_or line 0 0 ≡ hash → ⊥) → user_line line ≡ option_and_then listed_from (cut colon line)
unfolding user_line
user_line-past_hash line apart =
    ap (λ b. cond b None (option_and_then listed_from (cut colon line))) (is_false _ (λ is. apart ((Decides-eqb (get_or line 0 0) hash).0 is)))

user_line-hash : (line : List ℕ) → get_or line 0 0 ≡ hash → user_line line ≡ None
unfolding user_line
user_line-hash line is =
    ap (λ b. cond b None (option_and_then listed_from (cut colon line))) ((Decides-eqb (get_or line 0 0) hash).1 is)

user_line-read : CutsFirst → (line user digest : List ℕ) → user_line line ≡ Some (user, digest) → IsUserLine line user digest
user_line-read first line user digest h =
    let apart : get_or line 0 0 ≡ hash → ⊥ = λ is. false≢true (ap is_some (sym (user_line-hash line is) ∙ h)) in
    elim (cut colon line) as (λ o. cut colon line ≡ o → option_and_then listed_from o ≡ Some (user, digest) → IsUserLine line user digest) [
      | None ↦ λ is e. absurd (false≢true (ap is_some e))
      | Some parts ↦ λ is e. digest_at line parts.0 parts.1 user digest ((first colon line parts.0 parts.1).0 is) e apart
    ] refl (sym (user_line-past_hash line apart) ∙ h)

user_line-written : CutsFirst → (line user digest : List ℕ) → IsUserLine line user digest → user_line line ≡ Some (user, digest)
user_line-written first line user digest is =
    user_line-past_hash line is.no_comment
    ∙ ap (option_and_then listed_from) ((first colon line user is.digits).1 (is.is_line, is.no_colon))
    ∙ ap (λ r. option_map (listed_as user) (result_ok r)) is.is_digest

pub user_line-exact : CutsFirst → (line user digest : List ℕ)
    → (user_line line ≡ Some (user, digest) → IsUserLine line user digest) × (IsUserLine line user digest → user_line line ≡ Some (user, digest))
user_line-exact first line user digest = (user_line-read first line user digest, user_line-written first line user digest)
