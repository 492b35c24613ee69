-- Replies that are copied without memory, those of which nothing is written to a source, and those that end its connection by a
-- rule.
use Rattle.radio_events.specs.declared.reply.Reply.{Reply}
use Rattle.radio_events.specs.declared.reply.Reply.TheVariants.{Seated, Drawn, Noted, Text, Deny, Finished, Stray}
use Rattle.radio_events.specs.Texts.{IsShort}

-- it has neither data nor names, titles or listings
abbrev pub HoldsNoText : Reply → Type 0
HoldsNoText (Seated interval head) = ⊥
HoldsNoText (Drawn pieces title) = ⊥
HoldsNoText (Text text) = IsShort text
HoldsNoText reply = Unit {0}

-- nothing is written of it and the source goes on, or it ends by a rule
abbrev pub IsQuiet : Reply → Type 0
IsQuiet Noted = Unit {0}
IsQuiet Stray = Unit {0}
IsQuiet _ = ⊥

abbrev pub EndsByRule : Reply → Type 0
EndsByRule (Deny rule) = Unit {0}
EndsByRule (Finished rule) = Unit {0}
EndsByRule _ = ⊥
