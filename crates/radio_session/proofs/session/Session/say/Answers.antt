use Rattle.std.proofs.Common.{sym}
use Rattle.radio_session.proofs.session.Session.say.Goals as goal

pub returns-in-Seated-clause-bytes : goal.returns-in-Seated-clause-bytes
returns-in-Seated-clause-bytes c = rw c.in-Seated.is (rw (sym c.deref.ensures) c.admit_listener.ensures.bytes)
