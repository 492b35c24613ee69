use Rattle.std.proofs.Common.{◌≡◌, ◌++◌, take, drop}
use Rattle.std.specs.Option.{option_map}
use Rattle.radio_icy.specs.Titles.{before_title_end}
use Rattle.radio_icy.proofs.title.title_of.Given as goal

abbrev pub invariant-loop-end : goal.invariant-loop-end
invariant-loop-end l = before_title_end l.text ≡ option_map (λ title. take l.end l.text ++ title) (before_title_end (drop l.end l.text))
