-- What a stream says of itself beyond its name and genre.
use Rattle.std.specs.Prelude.{ℕ, List, []}
use Rattle.radio_values.specs.Cleaning.{cleaned}
use Rattle.radio_values.specs.Limits.{max_field}
use Rattle.radio_values.specs.declared.about.About.{About}

-- a description, a URL, a bit rate and parameters of the audio, each cleaned
abbrev pub about_of : List ℕ → List ℕ → List ℕ → List ℕ → About
about_of description url bitrate audio_info = record {
  description = cleaned max_field description;
  url = cleaned max_field url;
  bitrate = cleaned max_field bitrate;
  audio_info = cleaned max_field audio_info;
}

-- a stream that says nothing of itself
abbrev pub no_about : About
no_about = about_of [] [] [] []
