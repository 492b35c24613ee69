-- Content types that are refused, and some that are carried, by name.
use Rattle.std.specs.Prelude.{ℕ, List, [], ◌∷◌, codes}

abbrev pub refused_examples : List (List ℕ)
refused_examples =
    codes "application/ogg" ∷ codes "application/x-ogg" ∷ codes "audio/ogg" ∷ codes "video/ogg" ∷
    codes "audio/webm" ∷ codes "video/webm" ∷
    codes "audio/x-matroska" ∷ codes "video/x-matroska" ∷ codes "video/x-matroska-3d" ∷
    codes "Application/OGG" ∷ codes "audio/webm;codecs=opus" ∷ codes " audio/ogg ; codecs=vorbis" ∷ []

abbrev pub carried_examples : List (List ℕ)
carried_examples =
    codes "audio/mpeg" ∷ codes "audio/aac" ∷ codes "audio/aacp" ∷ codes "audio/flac" ∷ codes "application/octet-stream" ∷
    codes "audio/oggs" ∷ codes "" ∷ []
