-- What holds of what a worker's turn source and the acceptor decide. Moments and times are in milliseconds.
use Rattle.std.specs.Prelude.{◌≡◌, ◌⊎◌, ◌≤◌, ◌<◌, ◌+◌, ◌*◌, ◌^◌, ℕ, ℤ, pos, Bool, true, false, min}
use Rattle.radio_sockets.specs.Steps.{acceptor_wait, called_of, has_to_do, is_turn_due, lacks_descriptors, weight_of}

-- newcomers wait for one turn at most: 64 of those that were put off are taken in before the next
abbrev pub NewcomersAreTakenIn : Type 0
NewcomersAreTakenIn = (waiting passed : ℕ) → (called_of waiting passed true).count ≡ min waiting 64

-- a worker that made its last turn fifty milliseconds ago, or later, puts nobody off
abbrev pub PromptWorkersTakeAll : Type 0
PromptWorkersTakeAll = (waiting passed : ℕ) (were : Bool) → passed ≤ 50 → (called_of waiting passed were).count ≡ min waiting 64

-- a newcomer, or the end of all, is something to do at once
abbrev pub NewcomersAreToDo : Type 0
NewcomersAreToDo = (news over : Bool) (left newcomers : ℕ) → (0 < newcomers) ⊎ (over ≡ true) → has_to_do news left newcomers over ≡ true

-- a source counts as five connections
abbrev pub SourcesCountAsFive : Type 0
SourcesCountAsFive = (others sources : ℕ) → others + sources * 5 < 2 ^ 64 → weight_of (others + sources) sources ≡ others + sources * 5

-- a turn is due half a second after the last one, and not before
abbrev pub TurnsAreDue : Type 0
TurnsAreDue = (last ms : ℕ) → (last + 500 ≤ ms → is_turn_due ms last ≡ true) × (ms < last + 500 → is_turn_due ms last ≡ false)

-- two faults of the system want a descriptor, and no others: EMFILE and ENFILE
abbrev pub TwoFaultsWantOne : Type 0
TwoFaultsWantOne = (lacks_descriptors (pos 23) ≡ true) × (lacks_descriptors (pos 24) ≡ true)
    × ((code : ℤ) → lacks_descriptors code ≡ true → (code ≡ pos 23) ⊎ (code ≡ pos 24))

-- the acceptor looks once a second at least, and at once if it is called
abbrev pub AcceptorsLook : Type 0
AcceptorsLook = (called may_accept : Bool) (newcomers : ℕ) → (acceptor_wait called may_accept newcomers ≤ 1000) × (acceptor_wait true may_accept newcomers ≡ 0)
