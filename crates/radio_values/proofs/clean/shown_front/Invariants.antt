use Rattle.std.proofs.Common.{◌≡◌, ◌-◌, ◌≤◌, ◌++◌, length, drop}
use Rattle.std.specs.Prelude.{filter, encode_utf8_all}
use Rattle.std.specs.Str.{chars}
use Rattle.std.specs.String.{string_bytes, string_len}
use Rattle.radio_values.specs.Cleaning.{is_shown, front_within}
use Rattle.radio_values.proofs.clean.shown_front.Given as goal

-- what is made and what is still to be read make the whole
abbrev pub invariant-loop-c : goal.invariant-loop-c
invariant-loop-c l =
    (string_len l.made ≤ l.most)
    × (string_bytes l.made ++ encode_utf8_all (front_within (l.most - string_len l.made) (filter is_shown (drop (length l.yielded) (chars l.text))))
    ≡ encode_utf8_all (front_within l.most (filter is_shown (chars l.text))))
