use Rattle.radio_session.proofs.HeardBodyLemmas as lemmas
use Rattle.radio_session.proofs.laws.bodies_are_heard_as_their_data.Goals as goal

pub returns : goal.returns
returns c = record {
  plain = lemmas.plain_bodies_are_heard c.plain_bodies.ensures.found c.plain_bodies.ensures.place;
  sized = lemmas.sized_bodies_are_heard c.sized_bodies.ensures.found (λ n bytes e. (c.sized_bodies.ensures.ended n bytes e).0);
  chunked = lemmas.chunked_bodies_are_heard c.whole_bodies_are_complete.ensures.found c.whole_bodies_are_complete.ensures.place;
  faulty = lemmas.faulty_bodies_are_heard;
}
