-- What the heads of a stream's listeners show of it.
use Rattle.std.specs.Prelude.{ℕ, List}
use Rattle.radio_values.specs.Cleaning.{cleaned}
use Rattle.radio_values.specs.Limits.{max_field}
use Rattle.radio_values.specs.About.{no_about}
use Rattle.radio_values.specs.declared.field.Shown.{Shown}

-- a type, a name and a genre, each cleaned, of a stream that says nothing else of itself
-- rule: Cleaned texts
abbrev pub shown_of : List ℕ → List ℕ → List ℕ → Shown
shown_of content_type name genre = record {
  content_type = cleaned max_field content_type;
  name = cleaned max_field name;
  genre = cleaned max_field genre;
  about = no_about;
}
