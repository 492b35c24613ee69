use Rattle.radio_addr.proofs.WritingLemmas.{peer_of-written}
use Rattle.radio_addr.proofs.peer.written_peers.Goals as goal

pub returns : goal.returns
returns c = peer_of-written c.fields.ensures.by_cuts c.fields.ensures.some
