-- the places where a stream's blocks start: they rise still with one more, and none is past the end
use Rattle.std.proofs.Common.{◌≡◌, Bool, ℕ, ◌-◌, ◌≤◌, Option, Some, None, List, [], ◌∷◌, ◌++◌, refl, arith}
use Rattle.radio_parts_mount.proofs.Words.{find, nat_le, unwrap_or, Each, found_has, WholeStream, AreRising, end_of, burst_start}

each_below : (starts : List ℕ) (place last : ℕ) → place ≤ last → Each (λ next. place ≤ next) starts → Each (λ next. place ≤ next) (starts ++ last ∷ [])
each_below [] place last h all = (h, tt)
each_below (next ∷ others) place last h all = (all.0, each_below others place last h all.1)

pub rising_more : (starts : List ℕ) (last more : ℕ) → last ≤ more → AreRising starts last → AreRising (starts ++ last ∷ []) more
rising_more [] last more h r = (h, tt, tt)
rising_more (place ∷ places) last more h r = (omega arith, each_below places place last r.0 r.1, rising_more places last more h r.2)

all_within : (starts : List ℕ) (last : ℕ) → AreRising starts last → Each (λ place. place ≤ last) starts
all_within [] last r = tt
all_within (place ∷ places) last r = (r.0, all_within places last r.2)

pub burst_within : (stream : WholeStream) (burst : ℕ) → AreRising stream.starts (end_of stream) → burst_start stream burst ≤ end_of stream
burst_within stream burst r = by_found (find first stream.starts) refl where
  first : ℕ → Bool
  first start = nat_le (end_of stream - start) burst

  by_found : (found : Option ℕ) → find first stream.starts ≡ found → unwrap_or found (end_of stream) ≤ end_of stream
  by_found None e = omega arith
  by_found (Some start) e = found_has first (λ place. place ≤ end_of stream) stream.starts start (all_within stream.starts (end_of stream) r) e
