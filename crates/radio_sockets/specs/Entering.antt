-- The results of a try to accept a connection at the bound socket.
use Rattle.std.specs.Prelude.{◌≡◌, Bool, true, false}
use Rattle.radio_workers.specs.declared.entrance.AcceptResult.{AcceptResult}
use Rattle.radio_workers.specs.declared.entrance.AcceptResult.TheVariants.{One, Nothing, Failed, NoDescriptor}
use Rattle.radio_sockets.specs.declared.listening_socket.AcceptedSocket.{AcceptedSocket}
use Rattle.radio_sockets.specs.declared.listening_socket.ListeningSocket.{ListeningSocket}

-- by this answer no connection waits any more, or another one may
abbrev pub MayWait : Bool → AcceptResult AcceptedSocket → Bool → Type 0
MayWait false accepted now = (accepted ≡ Nothing) × (now ≡ false)
MayWait true Nothing now = now ≡ false
MayWait true (One newcomer) now = now ≡ true
MayWait true Failed now = now ≡ true
MayWait true NoDescriptor now = now ≡ true

-- the system is asked only if a connection may wait, and is asked no more once it has reported that none
-- does
abbrev pub IsEntered : ListeningSocket → AcceptResult AcceptedSocket → ListeningSocket → Type 0
IsEntered before accepted now = MayWait before.is_asked accepted now.is_asked
