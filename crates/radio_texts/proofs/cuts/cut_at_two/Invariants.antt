use Rattle.std.proofs.Common.{◌≡◌, take, drop}
use Rattle.radio_texts.specs.Cuts.{cut_at_two}
use Rattle.radio_texts.proofs.CutsLemmas.{after_front}
use Rattle.radio_texts.proofs.cuts.cut_at_two.Given as goal

abbrev pub invariant-loop-place : goal.invariant-loop-place
invariant-loop-place l = cut_at_two l.at l.text ≡ after_front (take l.place l.text) (cut_at_two l.at (drop l.place l.text))
