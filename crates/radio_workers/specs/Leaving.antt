-- How the clients of a worker that stops leave.
use Rattle.std.specs.Prelude.{◌≡◌, ℕ, Bool, true, false, List, [], ◌∷◌, ◌⊎◌}
use Rattle.radio_events.specs.declared.event.Event.{Event}
use Rattle.radio_events.specs.declared.event.Event.TheVariants.{Leave}
use Rattle.radio_events.specs.declared.reply.Reply.{Reply}
use Rattle.radio_events.specs.Servers.{Steps}
use Rattle.radio_connections.specs.Connections.{Connection}

module _ {S : Type 0} (steps : Steps S) (refuses : S → Event → Type 0) where
  -- the client of this number leaves, unless that is refused for want of memory
  abbrev pub AsksToLeave : S → ℕ → S → Type 0
  AsksToLeave server id server' = ((reply : Reply) × steps server (Leave id) reply server') ⊎ (refuses server (Leave id) × (server' ≡ server))

  -- a client that has left is asked for nothing, and else it leaves
  abbrev pub LeavesUnless : Bool → S → ℕ → S → Type 0
  LeavesUnless true server id server' = server' ≡ server
  LeavesUnless false server id server' = AsksToLeave server id server'

  -- the client of a connection leaves, if it has not left
  abbrev pub LeavesIfHere : S → Connection → S → Type 0
  LeavesIfHere server conn server' = LeavesUnless conn.status.has_left server conn.id server'

  -- each in its order
  -- rule: End of a worker
  abbrev pub LeavesAll : S → List Connection → S → Type 0
  LeavesAll server [] server' = server' ≡ server
  LeavesAll server (conn ∷ conns) server' = (between : S) × LeavesIfHere server conn between × LeavesAll between conns server'
