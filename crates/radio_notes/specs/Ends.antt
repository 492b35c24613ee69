-- The words and codes that the log has for the end of a connection.
use Rattle.std.specs.Prelude.{ℕ, List, codes, Option, Some, None}
use Rattle.radio_policy.specs.declared.rule.Rule.{Rule}
use Rattle.radio_policy.specs.declared.rule.Rule.TheVariants.{SourceSilent, SourceKilled}
use Rattle.radio_policy.specs.declared.rule.Status.{Status}
use Rattle.radio_policy.specs.declared.rule.Status.TheVariants.{BadRequest, Unauthorized, Forbidden, NotFound}
use Rattle.radio_policy.specs.Words.{status_of}
use Rattle.radio_events.specs.declared.state.Ending.TheVariants.{By as ByRule}
use Rattle.radio_events.specs.Endings.{ending_word}
use Rattle.radio_notes.specs.declared.ends.End.{End}
use Rattle.radio_notes.specs.declared.ends.End.TheVariants.{By, Stalled, NoMemory}

-- the code of a status (RFC 9110, section 15.5); 0 for none
abbrev pub code_of_status : Option Status → ℕ
code_of_status (Some BadRequest) = 400
code_of_status (Some Unauthorized) = 401
code_of_status (Some Forbidden) = 403
code_of_status (Some NotFound) = 404
code_of_status None = 0

-- the code of the answer that says a denial by the rule
abbrev pub code_of : Rule → ℕ
code_of rule = code_of_status (status_of rule)

-- the code of the answer that says the end: only the end by a rule has one
abbrev pub code_of_end : End → ℕ
code_of_end (By (ByRule rule)) = code_of rule
code_of_end end = 0

-- the word of an end; if none was noted, the peer has closed
abbrev pub end_word : Option End → List ℕ
end_word (Some (By ending)) = ending_word ending
end_word (Some Stalled) = codes "stalled"
end_word (Some NoMemory) = codes "out-of-memory"
end_word None = codes "left"

-- the word for the end of a mount whose source, or relay, was finished by the rule
abbrev pub mount_word_by : Rule → List ℕ
mount_word_by SourceSilent = codes "source-silent"
mount_word_by SourceKilled = codes "source-killed"
mount_word_by rule = codes "source-left"

-- the word for the end of a mount whose source has ended so
abbrev pub mount_word : Option End → List ℕ
mount_word (Some (By (ByRule rule))) = mount_word_by rule
mount_word end = codes "source-left"
