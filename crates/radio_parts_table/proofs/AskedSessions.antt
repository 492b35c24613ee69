-- what the parts' sessions are asked, told of the sessions of the live mounts
use Rattle.std.proofs.Common.{◌≡◌, Bool, true, false, ℕ, Option, Some, None, List, [], ◌∷◌, refl, ap, sym, ◌∙◌}
use Rattle.radio_parts_table.proofs.Words.{find, fold, min, if◌then◌else◌, option_map_or, session_due, Session, MountPart, earlier_due, has_session, live_in}
use Rattle.radio_parts_table.proofs.LiveLemmas.{live_none, live_some}

-- the session of the part that is found
abbrev pub session_in : Option MountPart → Option Session
session_in None = None
session_in (Some part) = part.session

module _ (p : Session → Bool) where
  chosen : (part : MountPart) (session : Session) (parts : List MountPart) (b : Bool) → part.session ≡ Some session
      → session_in (find (has_session p) parts) ≡ find p (live_in parts)
      → session_in (if b then Some part else find (has_session p) parts) ≡ (if b then Some session else find p (live_in parts))
  chosen part session parts true is later = is
  chosen part session parts false is later = later

  at_part : (part : MountPart) (parts : List MountPart) (found : Option Session) → part.session ≡ found
      → session_in (find (has_session p) parts) ≡ find p (live_in parts)
      → session_in (if option_map_or p found false then Some part else find (has_session p) parts) ≡ find p (live_in (part ∷ parts))
  at_part part parts None is later = later ∙ sym (ap (find p) (live_none part parts is))
  at_part part parts (Some session) is later = chosen part session parts (p session) is later ∙ sym (ap (find p) (live_some part parts session is))

  -- the first that passes
  pub first_in : (parts : List MountPart) → session_in (find (has_session p) parts) ≡ find p (live_in parts)
  first_in [] = refl
  first_in (part ∷ parts) = at_part part parts part.session refl (first_in parts)

module _ (seconds : ℕ) where
  abbrev due : ℕ → Session → ℕ
  due first session = min first (session_due seconds session)

  due_at_part : (part : MountPart) (parts : List MountPart) (found : Option Session) (first : ℕ) → part.session ≡ found
      → ((n : ℕ) → fold (earlier_due seconds) n parts ≡ fold due n (live_in parts))
      → fold (earlier_due seconds) (option_map_or (λ session. min first (session_due seconds session)) found first) parts ≡ fold due first (live_in (part ∷ parts))
  due_at_part part parts None first is later = later first ∙ sym (ap (fold due first) (live_none part parts is))
  due_at_part part parts (Some session) first is later =
      later (min first (session_due seconds session)) ∙ sym (ap (fold due first) (live_some part parts session is))

  -- the earliest moment
  pub earliest_in : (parts : List MountPart) (first : ℕ) → fold (earlier_due seconds) first parts ≡ fold due first (live_in parts)
  earliest_in [] first = refl
  earliest_in (part ∷ parts) first = due_at_part part parts part.session first refl (earliest_in parts)
