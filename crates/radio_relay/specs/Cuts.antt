-- An answer that comes in pieces.
use Rattle.std.specs.Prelude.{◌≡◌, ℕ, List, [], ◌∷◌, ◌++◌}
use Rattle.std.specs.List.{concat}
use Rattle.radio_relay.specs.declared.pull.PullStage.{PullStage}
use Rattle.radio_relay.specs.declared.pull.PullStage.TheVariants.{Head}
use Rattle.radio_relay.specs.Pulled.{PulledPart, PullProgress, GoesOn, Stops, Pulled, goes_on, IsPulled, IsPulledAt}

-- what is pulled in behind these parts
abbrev pub behind : List PulledPart → Pulled → Pulled
behind parts pulled = record { parts = parts ++ pulled.parts; standing = pulled.standing }

-- these parts were pulled in, and this is the state of the pull: if it goes on, this comes next
abbrev pub Continues : List PulledPart → PullProgress → (PullStage → Pulled → Type 0) → Pulled → Type 0
Continues parts (GoesOn stage) Next pulled = (rest : Pulled) × Next stage rest × (pulled ≡ behind parts rest)
Continues parts (Stops fault) Next pulled = pulled ≡ record { parts = parts; standing = Stops fault }

-- the pieces come one after another, up to a fault, and this is pulled in
abbrev pub IsPulledIn : List (List ℕ) → PullStage → Pulled → Type 0
IsPulledIn [] stage pulled = pulled ≡ goes_on [] stage
IsPulledIn (piece ∷ pieces) stage pulled =
    (one : Pulled) × IsPulledAt stage piece one × Continues one.parts one.standing (IsPulledIn pieces) pulled

-- However an answer is cut, what is pulled in of it is what its bytes pull in as a whole.
abbrev pub PiecesArePulledAsOne : Type 0
PiecesArePulledAsOne = (pieces : List (List ℕ)) (cut whole : Pulled) → IsPulledIn pieces (Head []) cut → IsPulled (concat pieces) whole → cut ≡ whole

-- What some bytes pull in is one thing.
abbrev pub PullingIsOne : Type 0
PullingIsOne = (bytes : List ℕ) (one other : Pulled) → IsPulled bytes one → IsPulled bytes other → one ≡ other
