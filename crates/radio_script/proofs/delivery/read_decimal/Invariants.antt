use Rattle.std.proofs.Common.{◌≡◌, ◌≤◌, drop}
use Rattle.radio_script.proofs.Words.{digits_value, digits_value_after, all_digits}
use Rattle.radio_script.proofs.delivery.read_decimal.Given as goal

-- what is read, and the digits still to be read, make the number
abbrev pub invariant-loop-byte : goal.invariant-loop-byte
invariant-loop-byte l =
    (l.number ≤ 4294967295)
    × (digits_value_after 10 l.number (drop l.byte-index l.text) ≡ digits_value 10 l.text)
    × (all_digits 10 (drop l.byte-index l.text) ≡ all_digits 10 l.text)
