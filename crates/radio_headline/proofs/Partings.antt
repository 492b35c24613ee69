-- The place in a log of its one entry of a kind.
use Rattle.std.proofs.Common.{◌≡◌, List, [], ◌∷◌, ◌++◌, refl, sym, ap, subst, ◌∙◌}
use Rattle.radio_headline.proofs.Words.{Entry, Event}
use Rattle.radio_headline.proofs.Logs.{Each, each_second}

-- a log is parted at it in one way
pub record Parted (xs ys : List Entry) (e a : Entry) (cs ds : List Entry) : Type 0 where
  pub before : xs ≡ ys
  pub here : e ≡ a
  pub behind : cs ≡ ds

module _ (Is : Event → Type 0) where
  abbrev pub IsNot : Entry → Type 0
  IsNot e = Is e.event → ⊥

  pub none_there : (before behind : List Entry) (e : Entry) → Each IsNot (before ++ e ∷ behind) → Is e.event → ⊥
  none_there before behind e h l = (each_second IsNot before (e ∷ behind) h).0 l

  pub parted : (xs ys cs ds : List Entry) (e a : Entry) → xs ++ e ∷ cs ≡ ys ++ a ∷ ds → Is e.event → Each IsNot ys → Each IsNot ds
      → Parted xs ys e a cs ds
  parted [] [] cs ds e a h l none later = record { before = refl; here = cc; behind = cc }
  parted [] (y ∷ ys) cs ds e a h l none later = let same : e ≡ y = cc in absurd (none.0 (subst (λ (x : Entry). Is x.event) same l))
  parted (x ∷ xs) [] cs ds e a h l none later =
      let others : xs ++ e ∷ cs ≡ ds = cc in absurd (none_there xs cs e (subst (Each IsNot) (sym others) later) l)
  parted (x ∷ xs) (y ∷ ys) cs ds e a h l none later =
      let first : x ≡ y = cc in
      let others : xs ++ e ∷ cs ≡ ys ++ a ∷ ds = cc in
      let p = parted xs ys cs ds e a others l none.1 later in
      record { before = ap (λ (z : Entry). z ∷ xs) first ∙ ap (λ (zs : List Entry). y ∷ zs) p.before; here = p.here; behind = p.behind }
