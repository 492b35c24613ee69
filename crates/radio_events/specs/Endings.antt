-- How a connection ends.
use Rattle.std.specs.Prelude.{ℕ, List, codes}
use Rattle.radio_policy.specs.Words.{word_of}
use Rattle.radio_events.specs.declared.state.Ending.{Ending}
use Rattle.radio_events.specs.declared.state.Ending.TheVariants.{Done, By, BadBody, BadPull}

-- the word for an ending in a transcript
-- rule: Last word
abbrev pub ending_word : Ending → List ℕ
ending_word Done = codes "done"
ending_word (By rule) = word_of rule
ending_word BadBody = codes "bad-body"
ending_word BadPull = codes "bad-pull"
