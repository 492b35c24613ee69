-- What a walk finds at a mount, and where it ends.
use Rattle.std.specs.Prelude.{◌≡◌, ℕ, zero, suc, Bool, true, false, not, ◌&&◌, ◌||◌, nat_lt, if◌then◌else◌, List, Option, Some, None}
use Rattle.std.specs.Option.{option_map_or}
use Rattle.radio_creds.specs.Credentials.{Credentials}
use Rattle.radio_policy.specs.declared.rule.Rule.{Rule}
use Rattle.radio_policy.specs.declared.rule.Rule.TheVariants.{NotLive, MountFull, ListenerPassword, UserTwice, FallbackDepth}
use Rattle.radio_seats_rows.specs.declared.seat.Listener.{Listener}
use Rattle.radio_fallback.specs.declared.walking.WalkFinding.{WalkFinding}
use Rattle.radio_fallback.specs.declared.walking.Landing.{Landing}
use Rattle.radio_fallback.specs.declared.walking.Landing.TheVariants.{Lands, Stops}
use Rattle.radio_seats_rows.specs.Seats.{count_at, sits_there}

-- the end of the stream of a mount where one may sit
pub record StreamEnd : Type 0 where
  -- the number of the mount's session; 0 if it waits for one
  pub session : ℕ
  -- the place behind the last byte of its stream
  pub place : ℕ

-- what a walk sees of the server
pub record Sight : Type 0 where
  -- one may sit at the mount: it has a live source, or waits for one
  pub is_live : List ℕ → Bool
  -- how many may sit at the mount, if that is limited
  pub limit : List ℕ → Option ℕ
  -- the mount has no users, or they accept one who sends this pair, or none
  pub lets_in : List ℕ → Option Credentials → Bool
  -- a user may sit at the mount more than once
  pub allows_duplicates : List ℕ → Bool
  -- to which mount a walk goes on from this one, if to any
  pub fallback : List ℕ → Option (List ℕ)
  -- the mount sends on to its fallback where it is full
  pub hands_on_when_full : List ℕ → Bool
  -- where the stream of a live mount ends
  pub stream_end : List ℕ → StreamEnd

-- what a walk sees if the streams end at these places
abbrev pub with_ends : Sight → (List ℕ → ℕ) → Sight
with_ends sight ends = record sight { stream_end = λ mount. record { session = (sight.stream_end mount).session; place = ends mount } }

-- so many sit there as may
abbrev pub is_full : ℕ → Option ℕ → Bool
is_full count limit = option_map_or (λ most. not (nat_lt count most)) limit false

-- the user that was sent sits at the mount; without a pair there is none
abbrev pub sits_already : List Listener → List ℕ → Option Credentials → Bool
sits_already seats mount pair = option_map_or (λ sent. sits_there seats mount sent.user) pair false

-- in all that follows, `others` are the listeners but for the one who walks

-- a mount is full for a listener: as many others sit there as may
-- rule: Mount full
abbrev pub is_full_for : Sight → List Listener → List ℕ → Bool
is_full_for sight others mount = is_full (count_at others mount) (sight.limit mount)

-- another has its user, where each may sit once
abbrev pub is_twice_for : Sight → List Listener → Option Credentials → List ℕ → Bool
is_twice_for sight others pair mount = not (sight.allows_duplicates mount) && sits_already others mount pair

-- a mount is open to a listener: it lets it in, and it does not sit there already
-- rule: Listener password; Closed to moves
abbrev pub is_open_to : Sight → List Listener → Option Credentials → List ℕ → Bool
is_open_to sight others pair mount = sight.lets_in mount pair && not (is_twice_for sight others pair mount)

-- what one who sends this finds at the mount
-- rule: Not live; End of a walk
abbrev pub found_at : Sight → List Listener → List ℕ → Option Credentials → WalkFinding
found_at sight others mount pair = record {
  is_live = sight.is_live mount;
  is_full = is_full_for sight others mount;
  users_accept = sight.lets_in mount pair;
  user_is_twice = is_twice_for sight others pair mount;
}

-- the rule that stops a walk where it finds this; where none does, it may sit there
-- rule: Not live; End of a walk
abbrev pub stop_of : WalkFinding → Option Rule
stop_of found =
    if not found.is_live then Some NotLive else
    if found.is_full then Some MountFull else
    if not found.users_accept then Some ListenerPassword else
    if found.user_is_twice then Some UserTwice else
    None

-- it may sit at the mount, or the rule stops it there
abbrev pub landing_at : List ℕ → Option Rule → Landing
landing_at mount None = Lands mount
landing_at mount (Some rule) = Stops rule

-- where the mount itself puts one who sends this
abbrev pub landing_here : Sight → List Listener → Option Credentials → List ℕ → Landing
landing_here sight others pair mount = landing_at mount (stop_of (found_at sight others mount pair))

-- a mount hands a walk on where it is not live, and where it is full and its settings say so
-- rule: Passing a walk on
abbrev pub hands_on : Sight → List Listener → List ℕ → Bool
hands_on sight others mount = not (sight.is_live mount) || is_full_for sight others mount && sight.hands_on_when_full mount

-- it goes on to its fallback, if it has one
abbrev pub next_mount : Sight → List Listener → List ℕ → Option (List ℕ)
next_mount sight others mount = (if hands_on sight others mount then sight.fallback mount else None)

-- a walk goes on to the next mount, or ends here
abbrev pub onward : (List ℕ → Landing) → Landing → Option (List ℕ) → Landing
onward rest here None = here
onward rest here (Some next) = rest next

-- where a walk ends that may look at so many mounts
-- rule: Fallback depth
abbrev pub walk : ℕ → Sight → List Listener → Option Credentials → List ℕ → Landing
walk zero sight others pair mount = Stops FallbackDepth
walk (suc left) sight others pair mount = onward (walk left sight others pair) (landing_here sight others pair mount) (next_mount sight others mount)

-- at how many mounts a walk looks at the most
abbrev pub most_mounts : ℕ
most_mounts = 10

-- where a walk from the mount ends
-- rule: Fallback depth
unfoldable pub landing : Sight → List Listener → Option Credentials → List ℕ → Landing
landing sight others pair mount = walk most_mounts sight others pair mount

-- the rule that stopped a walk, if one did
abbrev pub stop_in : Landing → Option Rule
stop_in (Lands mount) = None
stop_in (Stops rule) = Some rule

-- it may sit at the mount: it is live, not full for it, and open to it
-- rule: End of a walk
pub record MaySit (sight : Sight) (others : List Listener) (pair : Option Credentials) (mount : List ℕ) : Type 0 where
  pub is_live : sight.is_live mount ≡ true
  pub has_room : is_full_for sight others mount ≡ false
  pub is_open : is_open_to sight others pair mount ≡ true
