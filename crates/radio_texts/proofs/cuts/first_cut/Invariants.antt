use Rattle.std.proofs.Common.{◌≡◌, take, drop}
use Rattle.radio_texts.specs.Cuts.{cut}
use Rattle.radio_texts.proofs.CutsLemmas.{after_front}
use Rattle.radio_texts.proofs.cuts.first_cut.Given as goal

abbrev pub invariant-loop-place : goal.invariant-loop-place
invariant-loop-place l = cut l.at l.text ≡ after_front (take l.place l.text) (cut l.at (drop l.place l.text))
