-- what commands change
use Rattle.std.proofs.Common.{◌≡◌, ℕ, Option, None, Some, refl}
use Rattle.radio_core.proofs.Words.{Command, MoveClients, KillClient, KillSource, SetTitle, SetFallback, AddUser, DeleteUser, Obey, answered, changed, session_killed, Session, session_of, World}

-- no command changes the settings
killed_keeps : (w : World) (found : Option Session) → (session_killed w found).station.settings ≡ w.station.settings
killed_keeps w None = refl
killed_keeps w (Some session) = refl

pub obeyed_keeps : (w : World) (id : ℕ) (command : Command) → (changed w (Obey id command)).station.settings ≡ w.station.settings
obeyed_keeps w id (MoveClients mount destination) = refl
obeyed_keeps w id (KillClient mount listener) = refl
obeyed_keeps w id (KillSource mount) = killed_keeps (answered w id) (session_of w.station.live mount)
obeyed_keeps w id (SetTitle mount text) = refl
obeyed_keeps w id (SetFallback mount fallback) = refl
obeyed_keeps w id (AddUser mount user password) = refl
obeyed_keeps w id (DeleteUser mount user) = refl

-- or, but for those that change users, who is let in
pub killed_lists : (w : World) (found : Option Session) → (session_killed w found).station.lists ≡ w.station.lists
killed_lists w None = refl
killed_lists w (Some session) = refl

-- or gives a number
killed_last : (w : World) (found : Option Session) → (session_killed w found).station.last_id ≡ w.station.last_id
killed_last w None = refl
killed_last w (Some session) = refl

pub obeyed_last : (w : World) (id : ℕ) (command : Command) → (changed w (Obey id command)).station.last_id ≡ w.station.last_id
obeyed_last w id (MoveClients mount destination) = refl
obeyed_last w id (KillClient mount listener) = refl
obeyed_last w id (KillSource mount) = killed_last (answered w id) (session_of w.station.live mount)
obeyed_last w id (SetTitle mount text) = refl
obeyed_last w id (SetFallback mount fallback) = refl
obeyed_last w id (AddUser mount user password) = refl
obeyed_last w id (DeleteUser mount user) = refl
