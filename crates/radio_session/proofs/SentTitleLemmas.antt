-- Which titles a listener is sent.
use Rattle.std.proofs.Common.{◌≡◌, ℕ, zero, suc, Bool, true, false, List, [], ◌∷◌, ◌++◌, Option, None, Some, refl, ap, sym, ◌∙◌, append-nil}
use Rattle.std.specs.Str.{bytes_eq}
use Rattle.std.specs.Option.{option_to_list}
use Rattle.std.proofs.lemmas.Slice.Eq.{bytes_eq-Decides}
use Rattle.radio_icy.specs.Block.{news_of, sent_with}
use Rattle.radio_icy.specs.Weaving.{Call}
use Rattle.radio_icy.specs.Stream.{title_at, sent_before, news_at, titles_sent}
use Rattle.radio_session.specs.SentTitles.{last_of_titles, AreChanges, TitlesAreSentInTime, NoTitleIsRepeated}

last_of_more : (titles : List (List ℕ)) (title : List ℕ) → last_of_titles (titles ++ title ∷ []) ≡ Some title
last_of_more [] title = refl
last_of_more (t ∷ []) title = refl
last_of_more (t ∷ u ∷ titles) title = last_of_more (u ∷ titles) title

changes_more : (titles : List (List ℕ)) (title : List ℕ) → AreChanges titles → (last_of_titles titles ≡ Some title → ⊥) → AreChanges (titles ++ title ∷ [])
changes_more [] title changes other = tt
changes_more (t ∷ []) title changes other = (λ same. other (ap (λ (x : List ℕ). Some x) same), tt)
changes_more (t ∷ u ∷ titles) title changes other = (changes.0, changes_more (u ∷ titles) title changes.1 other)

-- a title that is news differs from the one sent last
news_are_other : (title sent : Option (List ℕ)) (news : List ℕ) → news_of title sent ≡ Some news → sent ≡ Some news → ⊥
news_are_other None sent news e same = cc
news_are_other (Some title) None news e same = cc
news_are_other (Some title) (Some sent) news e same = by_test (bytes_eq title sent) refl where
  by_test : (b : Bool) → bytes_eq title sent ≡ b → ⊥
  by_test true t =
      let none : news_of (Some title) (Some sent) ≡ None = rw t refl in
      cc
  by_test false t =
      let some : news_of (Some title) (Some sent) ≡ Some title = rw t refl in
      let equal : title ≡ sent = cc in
      let yes_equal = (bytes_eq-Decides title sent).1 equal in
      cc

-- once the news of a title is sent, it is the last title sent
sent_now : (title : List ℕ) (sent : Option (List ℕ)) → sent_with (news_of (Some title) sent) sent ≡ Some title
sent_now title None = refl
sent_now title (Some sent) = by_test (bytes_eq title sent) refl where
  by_test : (b : Bool) → bytes_eq title sent ≡ b → sent_with (news_of (Some title) (Some sent)) (Some sent) ≡ Some title
  by_test true t = rw t (ap (λ (x : List ℕ). Some x) (sym ((bytes_eq-Decides title sent).0 t)))
  by_test false t = rw t refl

last_with : (titles : List (List ℕ)) (news sent : Option (List ℕ)) → last_of_titles titles ≡ sent → last_of_titles (titles ++ option_to_list news) ≡ sent_with news sent
last_with titles None sent e = ap last_of_titles (append-nil titles) ∙ e
last_with titles (Some title) sent e = last_of_more titles title

changes_with : (titles : List (List ℕ)) (news sent : Option (List ℕ)) → AreChanges titles → last_of_titles titles ≡ sent
    → ((title : List ℕ) → news ≡ Some title → sent ≡ Some title → ⊥) → AreChanges (titles ++ option_to_list news)
changes_with titles None sent changes e other = rw (append-nil titles) changes
changes_with titles (Some title) sent changes e other = changes_more titles title changes (λ same. other title refl (sym e ∙ same))

-- the last of the titles sent in k intervals is the one that `sent_before` names
sent_last : (n : ℕ) (draws : List Call) (k : ℕ) → last_of_titles (titles_sent n draws k) ≡ sent_before n draws k
sent_last n draws zero = refl
sent_last n draws (suc k) = last_with (titles_sent n draws k) (news_at n draws k) (sent_before n draws k) (sent_last n draws k)

pub sent_in_time : TitlesAreSentInTime
sent_in_time n draws k title e =
    sent_last n draws (suc k)
    ∙ ap (λ (t : Option (List ℕ)). sent_with (news_of t (sent_before n draws k)) (sent_before n draws k)) e
    ∙ sent_now title (sent_before n draws k)

pub not_repeated : NoTitleIsRepeated
not_repeated n draws zero = tt
not_repeated n draws (suc k) =
    changes_with (titles_sent n draws k) (news_at n draws k) (sent_before n draws k) (not_repeated n draws k) (sent_last n draws k)
    (news_are_other (title_at n draws k) (sent_before n draws k))
