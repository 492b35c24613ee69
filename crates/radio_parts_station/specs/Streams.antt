-- What the settings make of a stream.
use Rattle.std.specs.Prelude.{ℕ, List, unwrap_or}
use Rattle.radio_values.specs.declared.about.About.{About}
use Rattle.radio_values.specs.declared.field.Shown.{Shown}
use Rattle.radio_settings_values.specs.declared.settings.AboutOptions.{AboutOptions}
use Rattle.radio_settings_values.specs.Options.{options_for}
use Rattle.radio_parts_station.specs.StationState.{StationState}

-- what else a stream says of itself: what the settings give it, else its own; they give no parameters of the audio
-- rule: Shown fields
abbrev pub about_for : AboutOptions → About → About
about_for set about = record about {
  description = unwrap_or set.description about.description;
  url = unwrap_or set.url about.url;
  bitrate = unwrap_or set.bitrate about.bitrate;
}

-- what a stream on the mount shows: the name, the genre and what else the settings give it, else its own
-- rule: Shown fields
abbrev pub shown_for : StationState → List ℕ → Shown → Shown
shown_for station mount shown =
    let stream = (options_for station.settings mount).stream in
    record shown {
      name = unwrap_or stream.stream_name shown.name;
      genre = unwrap_or stream.genre shown.genre;
      about = about_for stream.about shown.about;
    }
