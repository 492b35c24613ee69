-- The lines of a transcript.
use Rattle.std.specs.Prelude.{ℕ, List, [], ◌∷◌, ◌++◌, Option, None, Some, codes}
use Rattle.std.specs.Fmt.{decimal}
use Rattle.radio_script.specs.Escapes.{escaped}

-- `out C TEXT`: the bytes that were written to connection C
unfoldable pub out_line : ℕ → List ℕ → List ℕ
out_line label bytes = codes "out " ++ decimal label ++ 32 ∷ escaped bytes ++ 10 ∷ []

-- `shut C WORD`: connection C was shut with this word
unfoldable pub shut_line : ℕ → List ℕ → List ℕ
shut_line label word = codes "shut " ++ decimal label ++ 32 ∷ word ++ 10 ∷ []

-- an `out` line if bytes were written
abbrev pub out_lines : ℕ → List ℕ → List ℕ
out_lines label [] = []
out_lines label (b ∷ bytes) = out_line label (b ∷ bytes)

-- a `shut` line if the connection was shut
abbrev pub shut_lines : ℕ → Option (List ℕ) → List ℕ
shut_lines label None = []
shut_lines label (Some word) = shut_line label word

-- The lines of a delivery to connection C: at most one `out` line, and then at most one `shut`
-- line.
-- rule: Line of a script
unfoldable pub answer_lines : ℕ → List ℕ → Option (List ℕ) → List ℕ
answer_lines label bytes word = out_lines label bytes ++ shut_lines label word
