-- What the settings say of answers.
use Rattle.std.specs.Prelude.{ℕ, nat_eq, Bool, false, None, not, ◌&&◌, ◌||◌, ◌==◌, List, codes}
use Rattle.std.specs.List.{list_any, starts_with}
use Rattle.std.specs.Str.{bytes_eq}
use Rattle.radio_heads.specs.Additions.{with_additions}
use Rattle.radio_answers.specs.declared.web_answers.WebAnswers.{WebAnswers}

-- what holds without a table `[web]`
abbrev pub no_web : WebAnswers
no_web = record { browser_commands = false; cache_control = false; sandbox = false; icecast_heads = false; server_start = None }

-- an answer as the settings say: that no cache keeps it, or nothing
-- rule: Cache control
abbrev pub answered_by : WebAnswers → List ℕ → List ℕ
answered_by web text = with_additions (record { forbids_caching = web.cache_control; is_sandboxed = false }) text

-- a comma parts a list of types, of which the last counts for browsers; a type of XML has a plus
abbrev pub parts_types : ℕ → Bool
parts_types byte = byte == 44 || byte == 43

-- the name of sound, of pictures or of bare bytes
abbrev pub has_media_name : List ℕ → Bool
has_media_name type = starts_with nat_eq type (codes "audio/") || starts_with nat_eq type (codes "video/") || bytes_eq type (codes "application/octet-stream")

-- a browser runs nothing of it
-- rule: Sandboxed streams
abbrev pub is_media : List ℕ → Bool
is_media type = has_media_name type && not (list_any parts_types type)

-- the head of a stream of this type as the settings say: a browser runs nothing of it, unless it is media
-- rule: Sandboxed streams
abbrev pub stream_by : WebAnswers → List ℕ → List ℕ → List ℕ
stream_by web type text = with_additions (record { forbids_caching = web.cache_control; is_sandboxed = web.sandbox && not (is_media type) }) text
