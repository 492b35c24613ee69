-- The clients that are there.
use Rattle.std.specs.Prelude.{ℕ, Bool, ◌==◌, List, Option, find, filter, not}
use Rattle.std.specs.declared.cmp.Ordering.{Ordering}
use Rattle.std.specs.Ordering.{nat_cmp}
use Rattle.radio_addr.specs.declared.peer.Peer.{Peer}
use Rattle.radio_parts_station.specs.declared.clients.ClientState.{ClientState}
use Rattle.radio_parts_station.specs.declared.clients.ClientState.TheVariants.{Undecided}
use Rattle.radio_tables.specs.Lists.{update_first, placed}

-- a client who has arrived and has not left
pub record Client : Type 0 where
  pub id : ℕ
  pub peer : Peer
  -- the moment of its arrival, in milliseconds
  pub arrived : ℕ
  -- what it does
  pub state : ClientState

-- a client who has just arrived
abbrev pub undecided_client : ℕ → Peer → ℕ → Client
undecided_client id peer moment = record { id = id; peer = peer; arrived = moment; state = Undecided }

abbrev pub is_client : ℕ → Client → Bool
is_client id client = client.id == id

-- the client of this number, if it is there
abbrev pub client_of : List Client → ℕ → Option Client
client_of clients id = find (is_client id) clients

-- clients are in the order of their numbers
abbrev pub by_number : Client → Client → Ordering
by_number a b = nat_cmp a.id b.id

-- one client more
abbrev pub with_client : List Client → Client → List Client
with_client clients client = placed by_number client clients

abbrev pub with_client_state : ClientState → Client → Client
with_client_state state client = record client { state = state }

-- the client of this number does something else from now on
abbrev pub in_state : List Client → ℕ → ClientState → List Client
in_state clients id state = update_first (is_client id) (with_client_state state) clients

-- the client of this number is gone
abbrev pub without_client : List Client → ℕ → List Client
without_client clients id = filter (λ client. not (is_client id client)) clients
