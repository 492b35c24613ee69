-- The user agent that a head names (RFC 9110, section 10.1.5).
use Rattle.std.specs.Prelude.{ℕ, ◌&&◌, nat_le, List, [], ◌∷◌, length, take, drop, map, codes, Option, None, Some, if◌then◌else◌}
use Rattle.std.specs.Char.{to_ascii_lowercase}
use Rattle.std.specs.Str.{bytes_eq}
use Rattle.radio_texts.specs.Blanks.{without_blanks}
use Rattle.radio_texts.specs.Lines.{without_return}

-- the user agent that a line names, if its name is that header's, in any ASCII case
abbrev pub agent_of_line : List ℕ → Option (List ℕ)
agent_of_line line =
    if nat_le 11 (length line) && bytes_eq (map to_ascii_lowercase (take 11 line)) (codes "user-agent:")
    then Some (without_blanks (without_return (drop 11 line))) else None

-- the agent of a line that names one, else that of the others
abbrev pub agent_or : Option (List ℕ) → List ℕ → List ℕ
agent_or None others = others
agent_or (Some agent) others = agent

-- the user agent of the first line that names one; empty if none does
abbrev pub agent_among : List (List ℕ) → List ℕ
agent_among [] = []
agent_among (line ∷ lines) = agent_or (agent_of_line line) (agent_among lines)
