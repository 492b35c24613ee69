-- What the program says of faults, of keys that are passed over, and in the log.
use Rattle.std.specs.Prelude.{◌≡◌, ◌==◌, ℕ, List, [], ◌++◌, length, codes, decimal, min, if◌then◌else◌}
use Rattle.std.specs.String.{string_bytes}
use Rattle.radio_settings.specs.Sections.{section_word}
use Rattle.radio_keys.specs.Keys.{word}
use Rattle.radio_log.specs.declared.facts.Fact.{Fact}
use Rattle.radio_log.specs.declared.facts.Fact.TheVariants.{Started}
use Rattle.radio_log.specs.declared.moment.Moment.{Moment}
use Rattle.radio_log.specs.Lines.{note_line}
use Rattle.radio_log.specs.Moments.{IsSecond}
use Rattle.radio_review.specs.declared.meant.Meant.{Meant}
use Rattle.radio_review.specs.declared.meant.Meant.TheVariants.{At, Key, Nothing}
use Rattle.radio_review.specs.declared.unknown.UnknownKey.{UnknownKey}
use Rattle.radio_values.specs.Cleaning.{cleaned}
use Rattle.radio_values.specs.Limits.{max_field}
use Rattle.radio_startup.specs.declared.fault.FileFault.{FileFault}
use Rattle.radio_startup.specs.declared.fault.FileFault.TheVariants.{CannotRead, NotToml}
use Rattle.radio_startup.specs.declared.notices.Dated.{Dated}

-- the reason that is known of a fault: the system's words for a file that cannot be read, the reader's for a text that is not TOML
abbrev pub IsReasonOfFile : FileFault → List ℕ → Type 0
IsReasonOfFile (CannotRead path error) reason = Unit {0}
IsReasonOfFile (NotToml misreading) reason = reason ≡ string_bytes misreading.reason
IsReasonOfFile fault reason = reason ≡ []

-- what is in front of the word that may have been meant, that word, and what is behind it
abbrev pub hint_of : Meant → List ℕ × List ℕ × List ℕ
hint_of (At section) = (codes ": it belongs to ", section_word section, [])
hint_of (Key key) = (codes ": did you mean ", word key, codes "?")
hint_of Nothing = ([], [], [])

-- a line of the log has the fact, at the second that it names; of a moment beyond the year 9999 its last second
abbrev pub HasFact : Fact → Dated → Type 0
HasFact fact dated =
    (moment : Moment) × IsSecond (min dated.seconds 253402300799) moment × (dated.line.items ≡ note_line (record { moment = moment; fact = fact }))

-- the program of this version listens at this address
abbrev pub start_fact : List ℕ → List ℕ → Fact
start_fact version address = Started version address

-- a space before the name of a mount, if there is one
abbrev pub space_before : List ℕ → List ℕ
space_before mount = if length mount == 0 then [] else codes " "

-- a key that no table has: its name, its table, the mount of the table, its line, and what may have been meant
abbrev pub words_of_unknown : UnknownKey → List ℕ
words_of_unknown unknown =
    codes "unknown key " ++ (cleaned max_field (string_bytes unknown.key) ++ (codes " in " ++ (section_word unknown.section
    ++ (space_before (string_bytes unknown.mount) ++ (string_bytes unknown.mount ++ (codes ", line " ++ (decimal unknown.line
    ++ ((hint_of unknown.meant).0 ++ ((hint_of unknown.meant).1 ++ (hint_of unknown.meant).2)))))))))
