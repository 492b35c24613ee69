use Rattle.std.proofs.Common.{refl}
use Rattle.radio_notes.specs.Visits.{new_visit}
use Rattle.radio_notes.proofs.VisitLemmas.{since, end_of, status_of, handed_of, fed_of, poll_of, part_of}
use Rattle.radio_notes.proofs.laws.visits_have_what_happened.Goals as goal

pub returns : goal.returns
returns c = record {
  since = λ ms hs. since (new_visit ms) hs;
  end = λ ms hs. end_of (new_visit ms) hs refl;
  status = λ ms hs. status_of (new_visit ms) hs refl;
  handed = λ ms hs. handed_of (new_visit ms) hs refl;
  fed = λ ms hs. fed_of (new_visit ms) hs refl;
  poll = λ ms hs. poll_of (new_visit ms) hs refl;
  part = λ ms hs. part_of (new_visit ms) hs;
}
