use Rattle.std.proofs.Common.{◌≡◌, ◌≤◌, drop}
use Rattle.std.specs.Str.Parse.{digits_value, digits_value_after}
use Rattle.radio_texts.proofs.NumbersLemmas.{all_digits}
use Rattle.radio_texts.proofs.numbers.read_number.Given as goal

-- what is read, and the digits still to be read, make the number
abbrev pub invariant-loop-byte : goal.invariant-loop-byte
invariant-loop-byte l =
    (l.number ≤ l.most)
    × (digits_value_after l.base l.number (drop l.byte-index l.text) ≡ digits_value l.base l.text)
    × (all_digits l.base (drop l.byte-index l.text) ≡ all_digits l.base l.text)
