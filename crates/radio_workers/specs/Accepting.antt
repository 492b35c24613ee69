-- When connections are accepted, and how many in a row could not be.
use Rattle.std.specs.Prelude.{ℕ, ◌+◌, ◌^◌, ◌-◌, min, Bool, true, false}
use Rattle.radio_workers.specs.declared.accepts.AcceptTry.{AcceptTry}
use Rattle.radio_workers.specs.declared.accepts.AcceptTry.TheVariants.{Accepted, Failed, NoDescriptor}

-- with so many failures in a row a server ends
abbrev pub most_failed : ℕ
most_failed = 100

-- so many milliseconds after a failure nothing is tried
abbrev pub pause : ℕ
pause = 100

-- How many accepts in a row failed, and the first moment of the next try. Then whether they failed for want of a descriptor.
pub record Accepting : Type 0 where
  pub failed : ℕ
  pub not_before : ℕ
  pub is_short : Bool

-- the moment behind a pause that begins now; a moment has 64 bits
abbrev pub after_pause : ℕ → ℕ
after_pause ms = min (2 ^ 64 - 1) (ms + pause)

-- one was tried at this moment
-- rule: Failed accepts
abbrev pub after_try : ℕ → AcceptTry → Accepting → Accepting
after_try ms Accepted a = record { failed = 0; not_before = 0; is_short = false }
after_try ms Failed a = record { failed = min most_failed (a.failed + 1); not_before = after_pause ms; is_short = false }
after_try ms NoDescriptor a = record { failed = a.failed; not_before = after_pause ms; is_short = true }

-- a connection has closed, and so there is a descriptor
-- rule: Failed accepts
abbrev pub closed_in : Accepting → Accepting
closed_in a = freed a.is_short a where
  freed : Bool → Accepting → Accepting
  freed true a = record { failed = a.failed; not_before = 0; is_short = false }
  freed false a = a
