-- Texts without a line feed.
use Rattle.std.proofs.Common.{◌≡◌, ℕ, ◌==◌, ◌||◌, Bool, true, false, List, [], ◌∷◌, ◌++◌, refl}
use Rattle.radio_script.proofs.Words.{has_feed}

pub or_false : (a b : Bool) → (a || b) ≡ false → (a ≡ false) × (b ≡ false)
or_false true b e = cc
or_false false b e = (refl, e)

pub has_feed-push : (bytes : List ℕ) (b : ℕ) → has_feed bytes ≡ false → (b == 10) ≡ false → has_feed (bytes ++ b ∷ []) ≡ false
has_feed-push [] b h e = rw e refl
has_feed-push (x ∷ bytes) b h e =
    let parts = or_false (x == 10) (has_feed bytes) h in
    rw (parts.0, has_feed-push bytes b parts.1 e) refl
