use Rattle.std.proofs.Common.{◌≡◌, length}
use Rattle.radio_texts.specs.Cuts.{fields_at}
use Rattle.radio_notes.specs.Agents.{agent_among}
use Rattle.radio_notes.proofs.agent.agent_in.Given as goal

-- no line before the rest names an agent
abbrev pub invariant-lines : goal.invariant-lines
invariant-lines l = agent_among (fields_at 10 l.head) ≡ agent_among (fields_at 10 l.rest)

abbrev pub decreases-lines : goal.decreases-lines
decreases-lines l = length l.rest
