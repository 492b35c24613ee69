-- the sessions with what is kept of their streams, through each change of the sessions
use Rattle.std.proofs.Common.{◌≡◌, Bool, true, false, ℕ, Option, Some, None, List, [], ◌∷◌, refl, ap, ◌∙◌}
use Rattle.radio_parts_mount.proofs.Words.{filter, not, if◌then◌else◌, Ordering, Less, Equal, Greater, option_map, option_map_or, match_ordering, bytes_eq, Each, find_mapped, found_has, kept_session, kept_live}
use Rattle.radio_parts_mount.proofs.Words.{longer_kept, kept_fed, Session, is_of, session_of, by_mount, with_session, longer, fed, with_title, titled, without_session, HasRisingStarts, end_of, is_silent}
use Rattle.radio_parts_mount.proofs.KeptStreams.{kept_end, kept_more}

module _ (limit : ℕ) where
  -- sessions are found as before
  pub kept_found : (live : List Session) (mount : List ℕ) → session_of (kept_live limit live) mount ≡ option_map (kept_session limit) (session_of live mount)
  kept_found live mount = find_mapped (is_of mount) (kept_session limit) (λ x. refl) live

  -- and so are those that are silent
  silent_at : (session : Session) (live : List Session) (seconds now : ℕ) (silent : Bool)
      → filter (is_silent seconds now) (kept_live limit live) ≡ kept_live limit (filter (is_silent seconds now) live)
      → (if silent then kept_session limit session ∷ filter (is_silent seconds now) (kept_live limit live)
      else filter (is_silent seconds now) (kept_live limit live))
      ≡ kept_live limit (if silent then session ∷ filter (is_silent seconds now) live else filter (is_silent seconds now) live)
  silent_at session live seconds now true later = ap (λ (t : List Session). kept_session limit session ∷ t) later
  silent_at session live seconds now false later = later

  pub kept_silent : (live : List Session) (seconds now : ℕ)
      → filter (is_silent seconds now) (kept_live limit live) ≡ kept_live limit (filter (is_silent seconds now) live)
  kept_silent [] seconds now = refl
  kept_silent (session ∷ live) seconds now = silent_at session live seconds now (is_silent seconds now session) (kept_silent live seconds now)

  end_in : (found : Option Session) → ((session : Session) → found ≡ Some session → HasRisingStarts session)
      → option_map_or (λ (session : Session). end_of session.stream) (option_map (kept_session limit) found) 0
      ≡ option_map_or (λ (session : Session). end_of session.stream) found 0
  end_in None rise = refl
  end_in (Some session) rise = kept_end limit session.stream (rise session refl)

  -- and their streams end where they did
  pub kept_ends : (live : List Session) (mount : List ℕ) → Each HasRisingStarts live
      → option_map_or (λ (session : Session). end_of session.stream) (session_of (kept_live limit live) mount) 0
      ≡ option_map_or (λ (session : Session). end_of session.stream) (session_of live mount) 0
  kept_ends live mount rise =
      ap (λ (found : Option Session). option_map_or (λ (session : Session). end_of session.stream) found 0) (kept_found live mount)
      ∙ end_in (session_of live mount) (λ session e. found_has (is_of mount) HasRisingStarts live session rise e)

  -- a block is delivered
  fed_at : (session : Session) (live : List Session) (mount block : List ℕ) (moment : ℕ) (his : Bool) → HasRisingStarts session
      → kept_fed limit (kept_live limit live) mount block moment ≡ kept_live limit (fed live mount block moment)
      → (if his then longer_kept limit block moment (kept_session limit session) ∷ kept_live limit live
      else kept_session limit session ∷ kept_fed limit (kept_live limit live) mount block moment)
      ≡ kept_live limit (if his then longer block moment session ∷ live else session ∷ fed live mount block moment)
  fed_at session live mount block moment true rises later =
      ap (λ s. record session { stream = s; last_block = moment } ∷ kept_live limit live) (kept_more limit session.stream block rises)
  fed_at session live mount block moment false rises later = ap (λ (t : List Session). kept_session limit session ∷ t) later

  pub fed_kept : (live : List Session) (mount block : List ℕ) (moment : ℕ) → Each HasRisingStarts live
      → kept_fed limit (kept_live limit live) mount block moment ≡ kept_live limit (fed live mount block moment)
  fed_kept [] mount block moment rise = refl
  fed_kept (session ∷ live) mount block moment rise =
      fed_at session live mount block moment (bytes_eq session.mount mount) rise.0 (fed_kept live mount block moment rise.1)

  -- a title is set
  titled_at : (session : Session) (live : List Session) (mount title : List ℕ) (his : Bool)
      → titled (kept_live limit live) mount title ≡ kept_live limit (titled live mount title)
      → (if his then with_title (Some title) (kept_session limit session) ∷ kept_live limit live
      else kept_session limit session ∷ titled (kept_live limit live) mount title)
      ≡ kept_live limit (if his then with_title (Some title) session ∷ live else session ∷ titled live mount title)
  titled_at session live mount title true later = refl
  titled_at session live mount title false later = ap (λ (t : List Session). kept_session limit session ∷ t) later

  pub titled_kept : (live : List Session) (mount title : List ℕ) → titled (kept_live limit live) mount title ≡ kept_live limit (titled live mount title)
  titled_kept [] mount title = refl
  titled_kept (session ∷ live) mount title = titled_at session live mount title (bytes_eq session.mount mount) (titled_kept live mount title)

  -- a session ends
  ended_at : (session : Session) (live : List Session) (mount : List ℕ) (his : Bool)
      → without_session (kept_live limit live) mount ≡ kept_live limit (without_session live mount)
      → (if not his then kept_session limit session ∷ without_session (kept_live limit live) mount else without_session (kept_live limit live) mount)
      ≡ kept_live limit (if not his then session ∷ without_session live mount else without_session live mount)
  ended_at session live mount true later = later
  ended_at session live mount false later = ap (λ (t : List Session). kept_session limit session ∷ t) later

  pub ended_kept : (live : List Session) (mount : List ℕ) → without_session (kept_live limit live) mount ≡ kept_live limit (without_session live mount)
  ended_kept [] mount = refl
  ended_kept (session ∷ live) mount = ended_at session live mount (bytes_eq session.mount mount) (ended_kept live mount)

  -- a session begins
  begun_at : (new session : Session) (live : List Session) (o : Ordering)
      → with_session (kept_live limit live) (kept_session limit new) ≡ kept_live limit (with_session live new)
      → match_ordering o (kept_session limit new ∷ kept_session limit session ∷ kept_live limit live) (kept_session limit new ∷ kept_live limit live)
      (kept_session limit session ∷ with_session (kept_live limit live) (kept_session limit new))
      ≡ kept_live limit (match_ordering o (new ∷ session ∷ live) (new ∷ live) (session ∷ with_session live new))
  begun_at new session live Less later = refl
  begun_at new session live Equal later = refl
  begun_at new session live Greater later = ap (λ (t : List Session). kept_session limit session ∷ t) later

  pub begun_kept : (live : List Session) (new : Session)
      → with_session (kept_live limit live) (kept_session limit new) ≡ kept_live limit (with_session live new)
  begun_kept [] new = refl
  begun_kept (session ∷ live) new = begun_at new session live (by_mount new session) (begun_kept live new)
