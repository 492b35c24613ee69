use Rattle.std.proofs.Common.{◌≡◌, ◌++◌, drop}
use Rattle.radio_script.proofs.Words.{option_map, Between, unescaped_from}
use Rattle.radio_script.proofs.escapes.unescape.Given as goal

abbrev pub invariant-loop-b : goal.invariant-loop-b
invariant-loop-b l =
    option_map (λ more. l.bytes.items ++ more) (unescaped_from l.place (drop l.b-index l.text)) ≡ unescaped_from Between l.text
