use Rattle.std.proofs.Common.{◌≡◌, ◌++◌}
use Rattle.radio_parts_facts.proofs.waiting.names_of.Given as goal

-- the names so far and those that are left are all
abbrev pub invariant-loop-name : goal.invariant-loop-name
invariant-loop-name l = l.all.items ++ l.name-iterator ≡ l.names.keys
