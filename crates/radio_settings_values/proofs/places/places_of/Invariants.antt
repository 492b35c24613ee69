use Rattle.std.proofs.Common.{take}
use Rattle.radio_settings_values.specs.Places.{HasPlaces}
use Rattle.radio_settings_values.proofs.RepeatLemmas.{IsPassed}
use Rattle.radio_settings_values.proofs.places.places_of.Given as goal

abbrev pub invariant-loop-place : goal.invariant-loop-place
invariant-loop-place l = IsPassed l.names l.place × HasPlaces l.places (take l.place l.names)
