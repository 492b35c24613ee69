-- Facts about the news of a block.
use Rattle.std.proofs.Common.{◌≡◌, ℕ, ◌+◌, ◌-◌, ◌*◌, List, [], ◌∷◌, ◌++◌, length, replicate, Option, None, Some, Bool, true, false, refl, arith, length-append}
use Rattle.std.proofs.Common.{append_assoc, codes}
use Rattle.std.specs.Str.{bytes_eq}
use Rattle.std.proofs.lemmas.Slice.Eq.{bytes_eq-Decides}
use Rattle.radio_icy.specs.Block.{news_of, sent_with, title_text, units_of, metadata_block}

-- a text equals itself
pub bytes_eq_same : (xs : List ℕ) → bytes_eq xs xs ≡ true
bytes_eq_same xs = (bytes_eq-Decides xs xs).1 refl

-- once its news are sent, a title is no news
pub news_of_sent : (title sent : Option (List ℕ)) → news_of title (sent_with (news_of title sent) sent) ≡ None
news_of_sent None sent = refl
news_of_sent (Some title) None = rw (bytes_eq_same title) refl
news_of_sent (Some title) (Some sent) = by_test (bytes_eq title sent) refl
  where
    by_test : (b : Bool) → bytes_eq title sent ≡ b → news_of (Some title) (sent_with (news_of (Some title) (Some sent)) (Some sent)) ≡ None
    by_test true e = rw (e, e) refl
    by_test false e = rw (e, bytes_eq_same title) refl

-- how long the text of a title is
pub length-title_text : (title : List ℕ) → length (title_text title) ≡ length title + 15
unfolding title_text
length-title_text title = grind (arith, length-append)

joined : (out : List ℕ) (n : ℕ) (front title back text padding : List ℕ) → front ++ (title ++ back) ≡ text
    → ((((out ++ n ∷ []) ++ front) ++ title) ++ back) ++ padding ≡ out ++ n ∷ (text ++ padding)
joined out n front title back text padding same = rw (← same) (simp append_assoc)

-- the pieces of a title's block, written one after another
pub block_pieces : (out title : List ℕ) (units : ℕ) (padding : List ℕ) → units ≡ units_of (length title + 15)
    → padding ≡ replicate (16 * units - (length title + 15)) 0
    → ((((out ++ units ∷ []) ++ codes "StreamTitle='") ++ title) ++ codes "';") ++ padding ≡ out ++ metadata_block (Some title)
unfolding metadata_block
block_pieces out title units padding is_units is_padding =
    let text : codes "StreamTitle='" ++ (title ++ codes "';") ≡ title_text title = unfold title_text in refl in
    rw (is_padding, is_units, ← length-title_text title)
    (joined out (units_of (length (title_text title))) (codes "StreamTitle='") title (codes "';") (title_text title) _ text)
