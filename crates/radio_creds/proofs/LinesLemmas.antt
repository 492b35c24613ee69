-- The lines of a text, taken one after another.
use Rattle.std.proofs.Common.{◌≡◌, ℕ, ◌<◌, Bool, true, false, cond, List, [], ◌∷◌, length, Option, None, Some, refl, sym, ap, ◌∙◌, arith}
use Rattle.std.specs.Ordering.{nat_cmp, is_eq}
use Rattle.std.specs.Option.{is_some}
use Rattle.std.specs.Cmp.Lexicographic.{slice_cmp, nat_list_cmp_total}
use Rattle.std.specs.FinMap as finite
use Rattle.std.specs.FinMap.{get-from_entries, get-insert, get-empty, get_tied, find, same_map}
use Rattle.std.specs.List.{filter_map, cons_option}
use Rattle.std.proofs.lemmas.Bool.{false≢true}
use Rattle.radio_texts.specs.Cuts.{fields_at}
use Rattle.radio_texts.specs.Lines.{without_return}
use Rattle.radio_creds.specs.UserLine.{user_line}
use Rattle.radio_creds.specs.UserList.{UserList, with_line, lines_of, ended_lines}
use Rattle.radio_creds.proofs.ListedLemmas.{order, same_user, equal}

-- a list with the users of more lines
abbrev pub with_lines : UserList → List (List ℕ) → UserList
with_lines users [] = users
with_lines users (line ∷ lines) = with_lines (with_line users (user_line line)) lines

ended-more : (line : List ℕ) (pieces : List (List ℕ)) → 0 < length pieces → ended_lines (line ∷ pieces) ≡ without_return line ∷ ended_lines pieces
ended-more line [] h = absurd (omega arith)
ended-more line (piece ∷ pieces) h = refl

-- the lines of a text with a line feed, and of one with none
pub lines_of-more : (text line after : List ℕ) → fields_at 10 text ≡ line ∷ fields_at 10 after → 0 < length (fields_at 10 after)
    → lines_of text ≡ without_return line ∷ lines_of after
lines_of-more text line after cut some = ap ended_lines cut ∙ ended-more line (fields_at 10 after) some

pub lines_of-last : (text : List ℕ) → fields_at 10 text ≡ text ∷ [] → lines_of text ≡ text ∷ []
lines_of-last text cut = ap ended_lines cut

-- the first of two answers
abbrev or_later : Option (List ℕ) → Option (List ℕ) → Option (List ℕ)
or_later None later = later
or_later (Some digest) later = Some digest

or_nothing : (o : Option (List ℕ)) → or_later o None ≡ o
or_nothing None = refl
or_nothing (Some x) = refl

listed_first : (o later : Option (List ℕ)) (same : Bool) (digest : List ℕ) → (same ≡ true → is_some o ≡ true)
    → or_later o later ≡ or_later o (cond same (Some digest) later)
listed_first (Some x) later same digest h = refl
listed_first None later true digest h = absurd (false≢true (h refl))
listed_first None later false digest h = refl

new_first : (o later : Option (List ℕ)) (same : Bool) (digest : List ℕ) → (same ≡ true → is_some o ≡ false)
    → or_later (cond same (Some digest) o) later ≡ or_later o (cond same (Some digest) later)
new_first (Some x) later true digest h = absurd (false≢true (sym (h refl)))
new_first None later true digest h = refl
new_first o later false digest h = refl

-- a user who is listed keeps its digest, and another gets that of the line
one_more : (users : UserList) (line : Option (List ℕ × List ℕ)) (entries : List (List ℕ × List ℕ)) (user : List ℕ)
    → or_later (finite.get (with_line users line) user) (find (slice_cmp nat_cmp) user entries)
    ≡ or_later (finite.get users user) (find (slice_cmp nat_cmp) user (cons_option line entries))
one_more users None entries user = refl
one_more users (Some line) entries user =
    let later : Option (List ℕ) = find (slice_cmp nat_cmp) user entries in
    let tied : is_eq (order user line.0) ≡ true → is_some (finite.get users user) ≡ finite.contains_key users line.0
    = λ e. ap is_some (sym (get_tied nat_list_cmp_total users user line.0 (equal _ e))) in
    elim (finite.contains_key users line.0) as (λ b. finite.contains_key users line.0 ≡ b
    → or_later (finite.get (cond b users (finite.insert users line.0 line.1)) user) later
    ≡ or_later (finite.get users user) (cond (is_eq (order user line.0)) (Some line.1) later)) [
      | true ↦ λ h. listed_first (finite.get users user) later (is_eq (order user line.0)) line.1 (λ e. tied e ∙ h)
      | false ↦ λ h. ap (λ o. or_later o later) (get-insert nat_list_cmp_total users line.0 line.1 user)
          ∙ new_first (finite.get users user) later (is_eq (order user line.0)) line.1 (λ e. tied e ∙ h)
    ] refl

get-with_lines : (users : UserList) (lines : List (List ℕ)) (user : List ℕ)
    → finite.get (with_lines users lines) user ≡ or_later (finite.get users user) (find (slice_cmp nat_cmp) user (filter_map user_line lines))
get-with_lines users [] user = sym (or_nothing (finite.get users user))
get-with_lines users (line ∷ lines) user =
    get-with_lines (with_line users (user_line line)) lines user
    ∙ one_more users (user_line line) (filter_map user_line lines) user

-- the first line of each user counts
pub with_lines-empty : (lines : List (List ℕ)) → with_lines finite.empty lines ≡ finite.from_entries (filter_map user_line lines)
with_lines-empty lines =
    same_map nat_list_cmp_total same_user _ _ (λ user. get-with_lines finite.empty lines user
    ∙ ap (λ o. or_later o (find (slice_cmp nat_cmp) user (filter_map user_line lines))) (get-empty (slice_cmp nat_cmp) user)
    ∙ sym (get-from_entries nat_list_cmp_total _ user))
