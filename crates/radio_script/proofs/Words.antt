-- what the proofs of this crate speak of, by the crate where it is defined
pub use Rattle.std.proofs.KnownBytes.{Appends-nil, Appends-trans, Consumes-trans}
pub use Rattle.std.proofs.lemmas.Bool.Decides.{nat_tests}
pub use Rattle.std.proofs.lemmas.Grind.{common_steps}
pub use Rattle.std.proofs.lemmas.List.{drop_all, drop_more, length-take, length_push, take_min, take_rest}
pub use Rattle.std.specs.Char.{digit_char, digit_value}
pub use Rattle.std.specs.Io.{StartsWith}
pub use Rattle.std.specs.Io.KnownBytes.{Appends, Consumes, IsAtEnd, prepend_known}
pub use Rattle.std.specs.List.{AllByRecursion, flat_map}
pub use Rattle.std.specs.Option.{MatchOption, option_map, option_to_list}
pub use Rattle.std.specs.Str.Parse.{AllDigits, digits_value, digits_value_after}
pub use Rattle.radio_texts.proofs.NumbersLemmas.{all_digits, number_of-large}
pub use Rattle.radio_script.specs.Answers.{AnswersLine, IsAtFault, IsLinePlayed, IsLineResult, PlaysLine, YieldsText}
pub use Rattle.radio_script.specs.Escapes.{escape_of, hex_value_of, is_unescaped, step_at, unescaped_from}
unfoldable pub use Rattle.radio_script.specs.Escapes.{escaped, unescaped}
pub use Rattle.radio_script.specs.Feeds.{has_feed}
pub use Rattle.radio_script.specs.Limits.{max_line, max_lines}
pub use Rattle.radio_script.specs.Plays.{EndsThere, IfKnown, IsCutOff, IsLines, IsOneLine, IsPlayed, IsPlayedBefore, Plays, Writes}
pub use Rattle.radio_script.specs.Runs.{Conduct, Runs}
pub use Rattle.radio_script.specs.Script.{deliveries_from, fault_from, fault_or, onto_delivery, script_lines}
unfoldable pub use Rattle.radio_script.specs.Script.{meaning_of}
pub use Rattle.radio_script.specs.Transcripts.{IsTranscript, run_fault}
pub use Rattle.radio_script.specs.declared.delivery.Delivery.{Delivery}
pub use Rattle.radio_script.specs.declared.escapes.EscapePlace.{EscapePlace}
pub use Rattle.radio_script.specs.declared.escapes.EscapePlace.TheVariants.{Between, Escape, High, Low}
pub use Rattle.radio_script.specs.declared.faults.PlayFault.{PlayFault}
pub use Rattle.radio_script.specs.declared.faults.PlayFault.TheVariants.{Line, OutOfMemory, Read, TooMuch, Write}
