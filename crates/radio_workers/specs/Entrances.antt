-- The result of a try to accept a connection.
use Rattle.std.specs.Prelude.{◌≡◌, ℕ, Bool, true, false, nat_lt, Option, None, Some, Result, Ok, Err, if◌then◌else◌}
use Rattle.radio_workers.specs.declared.accepts.AcceptTry.TheVariants.{Accepted as IsAccepted, Failed as HasFailed, NoDescriptor as LacksDescriptor}
use Rattle.radio_workers.specs.declared.entrance.AcceptFault.{AcceptFault}
use Rattle.radio_workers.specs.declared.entrance.AcceptResult.{AcceptResult}
use Rattle.radio_workers.specs.declared.entrance.AcceptResult.TheVariants.{One, Nothing, Failed, NoDescriptor}
use Rattle.radio_workers.specs.Accepting.{Accepting, most_failed, after_try}

module _ {T : Type 0} where
  -- what is noted of a try at this moment: nothing if no connection waits
  abbrev pub settled : ℕ → AcceptResult T → Accepting → Accepting
  settled ms (One one) a = after_try ms IsAccepted a
  settled ms Nothing a = a
  settled ms Failed a = after_try ms HasFailed a
  settled ms NoDescriptor a = after_try ms LacksDescriptor a

  -- what is answered then: the connection, or the fault with the last failure in a row
  abbrev pub answer_of : AcceptResult T → Accepting → Result (Option T) AcceptFault
  answer_of (One one) now = Ok (Some one)
  answer_of Nothing now = Ok None
  answer_of Failed now = if nat_lt now.failed most_failed then Ok None else Err (record {})
  answer_of NoDescriptor now = Ok None

  -- one is tried if it may be, and else nothing happens
  -- rule: Failed accepts
  abbrev pub IsTried : {E : Type 0} → (E → AcceptResult T → E → Type 0) → Bool → ℕ → E → Accepting → Result (Option T) AcceptFault → E → Accepting → Type 0
  IsTried accepts true ms from a answer to a' = (accepted : AcceptResult T) × accepts from accepted to × (a' ≡ settled ms accepted a) × (answer ≡ answer_of accepted a')
  IsTried accepts false ms from a answer to a' = (to ≡ from) × (a' ≡ a) × (answer ≡ Ok None)
