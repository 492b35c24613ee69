-- Headers that the settings add to answers.
use Rattle.std.specs.Prelude.{ℕ, Bool, ◌==◌, if◌then◌else◌, List, [], ◌∷◌, ◌++◌, codes}
use Rattle.radio_heads.specs.declared.additions.Additions.{Additions}
use Rattle.radio_heads.specs.Answer.{header_line}

-- no cache keeps the answer (RFC 9111, sections 5.2.2.4 and 5.2.2.5)
abbrev pub cache_lines : Bool → List ℕ
cache_lines forbids = if forbids then header_line (codes "Cache-Control") (codes "no-cache, no-store") else []

-- a browser runs nothing of it (Content Security Policy, level 3), and takes it for nothing but what its type says (the Fetch standard, section 3.6)
abbrev pub sandbox_lines : Bool → List ℕ
sandbox_lines sandboxed =
    if sandboxed
    then header_line (codes "Content-Security-Policy") (codes "sandbox") ++ header_line (codes "X-Content-Type-Options") (codes "nosniff")
    else []

abbrev pub added_lines : Additions → List ℕ
added_lines additions = cache_lines additions.forbids_caching ++ sandbox_lines additions.is_sandboxed

-- the lines are behind the first line of a text
abbrev pub behind_first_line : List ℕ → List ℕ → List ℕ
behind_first_line lines [] = lines
behind_first_line lines (byte ∷ text) = if byte == 10 then byte ∷ lines ++ text else byte ∷ behind_first_line lines text

-- an answer with these headers, behind its status line
-- rule: Cache control
abbrev pub with_additions : Additions → List ℕ → List ℕ
with_additions additions text = behind_first_line (added_lines additions) text
