-- Content types that the server does not carry (RFC 9110, section 8.3.1).
use Rattle.std.specs.Prelude.{ℕ, Bool, List, [], ◌∷◌, map, codes}
use Rattle.std.specs.Char.{to_ascii_lowercase}
use Rattle.std.specs.List.{list_any}
use Rattle.std.specs.Option.{option_map_or}
use Rattle.std.specs.Str.{bytes_eq}
use Rattle.radio_texts.specs.Blanks.{without_blanks}
use Rattle.radio_texts.specs.Cuts.{cut}

-- containers that whoever joins later cannot be sent as plain bytes: Ogg, WebM and Matroska
abbrev pub refused_types : List (List ℕ)
refused_types =
    codes "application/ogg" ∷ codes "application/x-ogg" ∷ codes "audio/ogg" ∷ codes "video/ogg" ∷
    codes "audio/webm" ∷ codes "video/webm" ∷
    codes "audio/x-matroska" ∷ codes "video/x-matroska" ∷ codes "video/x-matroska-3d" ∷ []

-- the type and the subtype: what is before the first `;`, without blanks at its ends
abbrev pub media_type : List ℕ → List ℕ
media_type text = without_blanks (option_map_or (λ parts. parts.0) (cut 59 text) text)

abbrev pub is_same_type : List ℕ → List ℕ → Bool
is_same_type a b = bytes_eq (map to_ascii_lowercase a) (map to_ascii_lowercase b)

-- it is one of the refused types, in any ASCII case
-- rule: Content type
abbrev pub is_refused_type : List ℕ → Bool
is_refused_type text = list_any (λ refused. is_same_type refused (media_type text)) refused_types
