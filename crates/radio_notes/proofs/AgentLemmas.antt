-- Steps of the search for a user agent.
use Rattle.std.proofs.Common.{◌≡◌, ℕ, List, [], ◌∷◌, Option, None, Some, ap, ◌∙◌}
use Rattle.radio_texts.specs.Cuts.{fields_at}
use Rattle.radio_notes.specs.Agents.{agent_among, agent_of_line, agent_or}

-- a line that names none is passed
pub passed : (rest line later : List ℕ) → fields_at 10 rest ≡ line ∷ fields_at 10 later → agent_of_line line ≡ None → agent_among (fields_at 10 rest) ≡ agent_among (fields_at 10 later)
passed rest line later cut none =
    ap agent_among cut ∙ ap (λ (o : Option (List ℕ)). agent_or o (agent_among (fields_at 10 later))) none

-- a line that names one
pub found : (rest line later agent : List ℕ) → fields_at 10 rest ≡ line ∷ fields_at 10 later → agent_of_line line ≡ Some agent → agent_among (fields_at 10 rest) ≡ agent
found rest line later agent cut some =
    ap agent_among cut ∙ ap (λ (o : Option (List ℕ)). agent_or o (agent_among (fields_at 10 later))) some

-- the last line
pub last : (rest line : List ℕ) (o : Option (List ℕ)) → fields_at 10 rest ≡ line ∷ [] → agent_of_line line ≡ o → agent_among (fields_at 10 rest) ≡ agent_or o []
last rest line o cut is = ap agent_among cut ∙ ap (λ (o : Option (List ℕ)). agent_or o []) is
