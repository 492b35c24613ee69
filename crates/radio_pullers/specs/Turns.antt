-- A turn of a relay's thread.
use Rattle.std.specs.Prelude.{◌≡◌, ◌⊎◌, ℕ, Option, Some}
use Rattle.radio_events.specs.Servers.{Steps}
use Rattle.radio_masters.specs.declared.mount_pull.PullTurn.{PullTurn}
use Rattle.radio_masters.specs.declared.relay_end.RelayEnd.{RelayEnd}
use Rattle.radio_masters.specs.declared.relay_end.RelayEnd.TheVariants.{Left, NotWished}
use Rattle.radio_masters.specs.Pulls.{IsPullTurn, PullOver}
use Rattle.radio_tries.specs.Pulls.{EndsBy, is_late}

module _ {S : Type 0} (steps : Steps S) where
  -- the pull was asked for a turn, at some moment, and ends by what came of it
  abbrev pub HasTurned : ℕ → PullOver → S → Option RelayEnd → PullOver → S → Type 0
  HasTurned began pull from end pull' to =
      (turn : PullTurn) × (ms : ℕ) × IsPullTurn steps pull from turn pull' to × EndsBy turn pull' (is_late began ms) end

  -- nothing was asked: the system reports nothing of sockets, or the relay is to stop
  abbrev pub HasRested : PullOver → S → Option RelayEnd → PullOver → S → Type 0
  HasRested pull from end pull' to = (pull' ≡ pull) × (to ≡ from) × ((end ≡ Some Left) ⊎ (end ≡ Some NotWished))

  -- a turn of a pull that began at a moment, in milliseconds
  -- rule: Turn of a pull
  abbrev pub MayTurn : ℕ → PullOver → S → Option RelayEnd → PullOver → S → Type 0
  MayTurn began pull from end pull' to = HasTurned began pull from end pull' to ⊎ HasRested pull from end pull' to
