-- Books that are lent and taken back are the same books.
use Rattle.std.proofs.Common.{◌≡◌, inl, inr, Bool, List, [], ◌∷◌, ◌++◌, Result, Ok, Err, IfOk, OnErr, refl, ap, ◌∙◌}
use Rattle.radio_book.proofs.Words.{map, AllocError, ControlLine, World, Event, Reply, AreBack, AreLent, IsBack, IsControlStep, IsLentOrStays, IsRefused, mount_and_list, AreCuts, BookOfMount, IsCut}

lent_same : (reached : Bool) (book lent : BookOfMount) (before after : World) → IsLentOrStays reached book lent before after → mount_and_list lent ≡ mount_and_list book
lent_same reached book lent before after (inl is) = ap mount_and_list is.0
lent_same reached book lent before after (inr is) = ap mount_and_list is.3

all_lent_same : (reached : Bool) (books lent : List BookOfMount) (before after : World) → AreLent reached books lent before after → map mount_and_list lent ≡ map mount_and_list books
all_lent_same reached [] [] before after are = refl
all_lent_same reached [] (one ∷ lent) before after are = absurd are
all_lent_same reached (book ∷ books) [] before after are = absurd are
all_lent_same reached (book ∷ books) (one ∷ lent) before after are =
    let here = lent_same reached book one before are.0 are.1 in
    let later = all_lent_same reached books lent are.0 after are.2 in cc

back_same : (lent back : BookOfMount) (before after : World) → IsBack lent back before after → mount_and_list back ≡ mount_and_list lent
back_same lent back before after (inl is) = ap mount_and_list is.0
back_same lent back before after (inr is) = ap mount_and_list is.1

all_back_same : (lent back : List BookOfMount) (before after : World) → AreBack lent back before after → map mount_and_list back ≡ map mount_and_list lent
all_back_same [] [] before after are = refl
all_back_same [] (book ∷ back) before after are = absurd are
all_back_same (one ∷ lent) [] before after are = absurd are
all_back_same (one ∷ lent) (book ∷ back) before after are =
    let here = back_same one book before are.0 are.1 in
    let later = all_back_same lent back are.0 after are.2 in cc

pub stepped_same : (books back : List BookOfMount) (before after : World) (event : Event) (reply : Reply) → IsControlStep books before event reply back after
    → map mount_and_list back ≡ map mount_and_list books
stepped_same books back before after event reply is =
    all_back_same is.lent back is.later after is.takes_back ∙ all_lent_same is.reached books is.lent before is.whole is.lends

pub refused_same : (books back : List BookOfMount) (before after : World) → IsRefused books before back after → map mount_and_list back ≡ map mount_and_list books
refused_same books back before after (inl is) = ap (map mount_and_list) is.0
refused_same books back before after (inr is) =
    all_back_same is.lent back is.whole after is.takes_back ∙ all_lent_same is.reached books is.lent before is.whole is.lends

pub same_so : (books back : List BookOfMount) (before after : World) (event : Event) (result : Result Reply AllocError)
    → IfOk result (λ reply. IsControlStep books before event reply back after) → OnErr result (IsRefused books before back after)
    → map mount_and_list back ≡ map mount_and_list books
same_so books back before after event (Ok reply) step err = stepped_same books back before after event reply step
same_so books back before after event (Err refused) step err = refused_same books back before after err

-- nothing is left to be lent, or taken back
pub none_lent : (reached : Bool) (books lent : List BookOfMount) (w : World) → books ≡ [] → lent ≡ [] → AreLent reached books lent w w
none_lent reached [] [] w none over = refl
none_lent reached [] (one ∷ lent) w none over = let other : one ∷ lent ≡ [] = over in cc
none_lent reached (book ∷ books) lent w none over = let other : book ∷ books ≡ [] = none in cc

pub none_back : (lent back : List BookOfMount) (w : World) → lent ≡ [] → back ≡ [] → AreBack lent back w w
none_back [] [] w none over = refl
none_back [] (book ∷ back) w none over = let other : book ∷ back ≡ [] = over in cc
none_back (one ∷ lent) back w none over = let other : one ∷ lent ≡ [] = none in cc

-- one more cut
pub cut_more : (books : List BookOfMount) (cuts : List ControlLine) (book : BookOfMount) (line : ControlLine) → AreCuts books cuts → IsCut book.list line
    → AreCuts (books ++ book ∷ []) (cuts ++ line ∷ [])
cut_more [] [] book line are is = (is, tt)
cut_more [] (cut ∷ cuts) book line are is = absurd are
cut_more (one ∷ books) [] book line are is = absurd are
cut_more (one ∷ books) (cut ∷ cuts) book line are is = (are.0, cut_more books cuts book line are.1 is)
