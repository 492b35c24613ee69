-- How the end of a title is looked for.
use Rattle.std.proofs.Common.{◌≡◌, ℕ, ◌+◌, ◌<◌, ◌≤◌, Bool, ◌||◌, true, false, List, [], ◌∷◌, ◌++◌, length, take, drop, get_or, Option, None, Some, refl, arith}
use Rattle.std.proofs.Common.{ap, ◌∙◌, sym, subst, cond}
use Rattle.std.specs.Option.{option_map}
use Rattle.std.proofs.lemmas.List.{at_drop_more, at_drop_all, take_more, append_assoc, append-nil, take-append-drop}
use Rattle.std.specs.Prelude.{not, bytes_eq}
use Rattle.std.proofs.Common.{eqb, codes, ⊎_elim, length-append}
use Rattle.std.specs.List.{list_all}
use Rattle.std.proofs.lemmas.Bool.{and_parts, or_cases, both_ways, not-true, eqb-true, false_from_ne_true, false≢true}
use Rattle.radio_icy.specs.Block.{title_text}
use Rattle.radio_icy.specs.Titles.{before_title_end, ends_title, title_of, HasNoUrlInside, IsTitleIn}

-- a search goes on at the next byte if no title ends at this one
option_map-after : (f : List ℕ) (b : ℕ) (o : Option (List ℕ)) → option_map (λ t. f ++ t) (option_map (λ t. b ∷ t) o) ≡ option_map (λ t. (f ++ b ∷ []) ++ t) o
option_map-after f b None = refl
option_map-after f b (Some t) = ap (λ u. Some u) (sym (append_assoc f (b ∷ []) t))

at_no_end : (b : ℕ) (text : List ℕ) → ends_title (b ∷ text) ≡ false → before_title_end (b ∷ text) ≡ option_map (λ t. b ∷ t) (before_title_end text)
at_no_end b text e = rw e refl

at_end : (b : ℕ) (text : List ℕ) → ends_title (b ∷ text) ≡ true → before_title_end (b ∷ text) ≡ Some []
at_end b text e = rw e refl

pub title_passed : (text : List ℕ) (i : ℕ) → i < length text → ends_title (drop i text) ≡ false
    → before_title_end text ≡ option_map (λ t. take i text ++ t) (before_title_end (drop i text))
    → before_title_end text ≡ option_map (λ t. take (i + 1) text ++ t) (before_title_end (drop (i + 1) text))
title_passed text i inside goes so_far =
    let here = at_drop_more ends_title text i 0 inside in
    let step = at_drop_more before_title_end text i 0 inside ∙ at_no_end (get_or text i 0) (drop (i + 1) text) (sym here ∙ goes) in
    so_far
    ∙ (ap (option_map (λ t. take i text ++ t)) step
    ∙ (option_map-after (take i text) (get_or text i 0) (before_title_end (drop (i + 1) text))
    ∙ ap (λ f. option_map (λ t. f ++ t) (before_title_end (drop (i + 1) text))) (sym (take_more text i 0 inside))))

pub title_found : (text : List ℕ) (i : ℕ) → i < length text → ends_title (drop i text) ≡ true
    → before_title_end text ≡ option_map (λ t. take i text ++ t) (before_title_end (drop i text)) → Some (take i text) ≡ before_title_end text
title_found text i inside ends so_far =
    let here = at_drop_more ends_title text i 0 inside in
    let step = at_drop_more before_title_end text i 0 inside ∙ at_end (get_or text i 0) (drop (i + 1) text) (sym here ∙ ends) in
    sym (so_far ∙ (ap (option_map (λ t. take i text ++ t)) step ∙ ap (λ t. Some t) (append-nil (take i text))))

pub title_missing : (text : List ℕ) (i : ℕ) → length text ≤ i
    → before_title_end text ≡ option_map (λ t. take i text ++ t) (before_title_end (drop i text)) → None ≡ before_title_end text
title_missing text i past so_far = sym (so_far ∙ ap (option_map (λ t. take i text ++ t)) (at_drop_all before_title_end text i past))

-- what a text with a quote and more after it begins with, if it has no quote, the text itself begins with
quoted_front : (front title rest : List ℕ) → list_all (λ x. not (eqb x 39)) front ≡ true
    → bytes_eq front (take (length front) (title ++ 39 ∷ rest)) ≡ true → title ≡ front ++ drop (length front) title
quoted_front [] title rest plain same = refl
quoted_front (x ∷ front) [] rest plain same =
    absurd (both_ways (eqb x 39) (not-true (eqb x 39) (and_parts (not (eqb x 39)) _ plain).0) (and_parts (eqb x 39) _ same).0)
quoted_front (x ∷ front) (t ∷ title) rest plain same =
    let head : x ≡ t = eqb-true x t (and_parts (eqb x t) _ same).0 in
    ap (λ (b : ℕ). b ∷ title) (sym head)
    ∙ ap (λ u. x ∷ u) (quoted_front front title rest (and_parts (not (eqb x 39)) _ plain).1 (and_parts (eqb x t) _ same).1)

-- no title ends inside a title with no URL in it
no_end_inside : (b : ℕ) (title rest : List ℕ) → HasNoUrlInside (b ∷ title) → ends_title ((b ∷ title) ++ 39 ∷ 59 ∷ rest) ≡ true → ⊥
unfolding ends_title
no_end_inside b [] rest plain ends = false≢true (and_parts (eqb 39 b) _ (and_parts _ _ ends).0).1
no_end_inside b (c ∷ title) rest plain ends =
    let begins = (and_parts _ _ ends).0 in
    let quote : 39 ≡ b = eqb-true 39 b (and_parts (eqb 39 b) _ begins).0 in
    let stop : 59 ≡ c = eqb-true 59 c (and_parts (eqb 59 c) _ (and_parts (eqb 39 b) _ begins).1).0 in
    ⊎_elim
    (λ none. let empty : length (title ++ 39 ∷ 59 ∷ rest) ≡ 0 = eqb-true (length (title ++ 39 ∷ 59 ∷ rest)) 0 none in
    absurd (omega (arith, length-append title (39 ∷ 59 ∷ rest))))
    (λ url.
    let front = quoted_front (codes "StreamUrl=") title (59 ∷ rest) refl url in
    plain [] (drop 10 title) (ap (λ (q : ℕ). q ∷ c ∷ title) (sym quote) ∙ (ap (λ (q : ℕ). 39 ∷ q ∷ title) (sym stop) ∙ ap (λ t. 39 ∷ 59 ∷ t) front)))
    (or_cases _ _ (and_parts _ _ ends).1)

ends_at_end : ends_title (39 ∷ 59 ∷ []) ≡ true
unfolding ends_title
ends_at_end = refl

or_true : (b : Bool) → (b || true) ≡ true
or_true true = refl
or_true false = refl

ends_at_url : (url : List ℕ) → ends_title (39 ∷ 59 ∷ codes "StreamUrl=" ++ url) ≡ true
unfolding ends_title
ends_at_url url = or_true (eqb (length (codes "StreamUrl=" ++ url)) 0)

before_title_end-title : (title rest : List ℕ) → HasNoUrlInside title → ends_title (39 ∷ 59 ∷ rest) ≡ true
    → before_title_end (title ++ 39 ∷ 59 ∷ rest) ≡ Some title
before_title_end-title [] rest plain ends = at_end 39 (59 ∷ rest) ends
before_title_end-title (b ∷ title) rest plain ends =
    at_no_end b (title ++ 39 ∷ 59 ∷ rest) (false_from_ne_true _ (no_end_inside b title rest plain))
    ∙ ap (option_map (λ t. b ∷ t)) (before_title_end-title title rest (λ before after e. plain (b ∷ before) after (ap (λ t. b ∷ t) e)) ends)

-- the title of the text that is made of it
pub title_of-title_text : (title : List ℕ) → HasNoUrlInside title → title_of (title_text title) ≡ Some title
unfolding title_of title_text
title_of-title_text title plain = before_title_end-title title [] plain ends_at_end

-- the same, with a URL behind it
pub title_of-with_url : (title url : List ℕ) → HasNoUrlInside title → title_of (title_text title ++ (codes "StreamUrl=" ++ url)) ≡ Some title
unfolding title_of title_text
title_of-with_url title url plain =
    ap before_title_end (append_assoc title (39 ∷ 59 ∷ []) (codes "StreamUrl=" ++ url))
    ∙ before_title_end-title title (codes "StreamUrl=" ++ url) plain (ends_at_url url)

-- an end, and no end before it
record IsEnd (text title : List ℕ) : Type 0 where
  rest : List ℕ
  parts : text ≡ title ++ rest
  ends : ends_title rest ≡ true
  is_first : (before after : List ℕ) (b : ℕ) → title ≡ before ++ b ∷ after → ends_title ((b ∷ after) ++ rest) ≡ false

first_further : (b : ℕ) (t rest : List ℕ) → ends_title ((b ∷ t) ++ rest) ≡ false
    → ((before after : List ℕ) (x : ℕ) → t ≡ before ++ x ∷ after → ends_title ((x ∷ after) ++ rest) ≡ false)
    → (before after : List ℕ) (x : ℕ) → b ∷ t ≡ before ++ x ∷ after → ends_title ((x ∷ after) ++ rest) ≡ false
first_further b t rest here later [] after x same = ap (λ u. ends_title (u ++ rest)) (sym same) ∙ here
first_further b t rest here later (y ∷ before) after x same = later before after x (cc)

nothing_in : (before after : List ℕ) (b : ℕ) → [] ≡ before ++ b ∷ after → ⊥
nothing_in [] after b h = cc
nothing_in (x ∷ before) after b h = cc

end_here : (b : ℕ) (text title : List ℕ) → ends_title (b ∷ text) ≡ true → [] ≡ title → IsEnd (b ∷ text) title
end_here b text title ends none =
    record {
      rest = b ∷ text;
      parts = ap (λ u. u ++ b ∷ text) none;
      ends = ends;
      is_first = λ before after x same.
          absurd (nothing_in before after x (none ∙ same));
    }

end_further : (b : ℕ) (text title t : List ℕ) → ends_title (b ∷ text) ≡ false → b ∷ t ≡ title → IsEnd text t → IsEnd (b ∷ text) title
end_further b text title t goes same i =
    let here : ends_title ((b ∷ t) ++ i.rest) ≡ false = ap (λ u. ends_title (b ∷ u)) (sym i.parts) ∙ goes in
    subst (λ (u : List ℕ). IsEnd (b ∷ text) u) same
    (record { rest = i.rest; parts = ap (λ u. b ∷ u) i.parts; ends = i.ends; is_first = first_further b t i.rest here i.is_first })

by_rest : (b : ℕ) (text title : List ℕ) (o : Option (List ℕ)) → ends_title (b ∷ text) ≡ false → ((t : List ℕ) → o ≡ Some t → IsEnd text t)
    → option_map (λ u. b ∷ u) o ≡ Some title → IsEnd (b ∷ text) title
by_rest b text title None goes rest h = absurd (cc)
by_rest b text title (Some t) goes rest h = end_further b text title t goes (cc) (rest t refl)

end_found : (text title : List ℕ) → before_title_end text ≡ Some title → IsEnd text title
end_found [] title h = absurd (cc)
end_found (b ∷ text) title h =
    elim (ends_title (b ∷ text)) as
    (λ t. ends_title (b ∷ text) ≡ t → cond t (Some []) (option_map (λ u. b ∷ u) (before_title_end text)) ≡ Some title → IsEnd (b ∷ text) title) [
      | true ↦ λ ends found. end_here b text title ends (cc)
      | false ↦ λ goes found. by_rest b text title (before_title_end text) goes (λ t. end_found text t) found
    ] refl h

no_end_of_nothing : ends_title [] ≡ false
unfolding ends_title
no_end_of_nothing = refl

end_given : (title rest : List ℕ) → ends_title rest ≡ true
    → ((before after : List ℕ) (b : ℕ) → title ≡ before ++ b ∷ after → ends_title ((b ∷ after) ++ rest) ≡ false)
    → before_title_end (title ++ rest) ≡ Some title
end_given [] [] ends first = absurd (false≢true (sym no_end_of_nothing ∙ ends))
end_given [] (b ∷ rest) ends first = at_end b rest ends
end_given (b ∷ title) rest ends first =
    at_no_end b (title ++ rest) (first [] title b refl)
    ∙ ap (option_map (λ u. b ∷ u)) (end_given title rest ends (λ before after x same. first (b ∷ before) after x (ap (λ u. b ∷ u) same)))

bytes_eq-same : (xs ys : List ℕ) → bytes_eq xs ys ≡ true → xs ≡ ys
bytes_eq-same [] [] h = refl
bytes_eq-same [] (y ∷ ys) h = absurd (false≢true h)
bytes_eq-same (x ∷ xs) [] h = absurd (false≢true h)
bytes_eq-same (x ∷ xs) (y ∷ ys) h =
    let p = and_parts (eqb x y) (bytes_eq xs ys) h in
    ap (λ (b : ℕ). b ∷ xs) (eqb-true x y p.0) ∙ ap (λ u. y ∷ u) (bytes_eq-same xs ys p.1)

-- a text with a title begins with `StreamTitle='`
begun : (text title : List ℕ) → cond (bytes_eq (codes "StreamTitle='") (take 13 text)) (before_title_end (drop 13 text)) None ≡ Some title
    → (text ≡ codes "StreamTitle='" ++ drop 13 text) × (before_title_end (drop 13 text) ≡ Some title)
begun text title h =
    elim (bytes_eq (codes "StreamTitle='") (take 13 text)) as
    (λ t. bytes_eq (codes "StreamTitle='") (take 13 text) ≡ t → cond t (before_title_end (drop 13 text)) None ≡ Some title
    → (text ≡ codes "StreamTitle='" ++ drop 13 text) × (before_title_end (drop 13 text) ≡ Some title)) [
      | true ↦ λ same found.
          (sym (take-append-drop 13 text) ∙ ap (λ u. u ++ drop 13 text) (sym (bytes_eq-same (codes "StreamTitle='") (take 13 text) same)), found)
      | false ↦ λ same found. absurd (cc)
    ] refl h

title_behind : (rest : List ℕ) → title_of (codes "StreamTitle='" ++ rest) ≡ before_title_end rest
unfolding title_of
title_behind rest = refl

pub title_in : (text title : List ℕ) → title_of text ≡ Some title → IsTitleIn text title
unfolding title_of
title_in text title h =
    let b = begun text title h in
    let i = end_found (drop 13 text) title b.1 in
    record { rest = i.rest; parts = b.0 ∙ ap (λ u. codes "StreamTitle='" ++ u) i.parts; ends = i.ends; is_first = i.is_first }

pub title_from : (text title : List ℕ) → IsTitleIn text title → title_of text ≡ Some title
title_from text title i = ap title_of i.parts ∙ title_behind (title ++ i.rest) ∙ end_given title i.rest i.ends i.is_first
