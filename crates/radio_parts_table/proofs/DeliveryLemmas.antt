-- what a block that is brought to a mount changes, and what is answered
use Rattle.std.proofs.Common.{◌≡◌, ℕ, Option, Some, None, List, Result, Ok, Err, refl, ap, sym, subst, ◌∙◌}
use Rattle.radio_parts_table.proofs.Words.{find, IfOk, OnOk, OnErr, option_map, update_first, find_same, changed_alike, unchanged, longer_kept, kept_fed, end_in, Session, is_of, session_of, none_changes, Delivers}
use Rattle.radio_parts_table.proofs.Words.{MountPart, IsDelivered, AreNamed, live_in, is_part_of, with_session_changed}
use Rattle.std.specs.declared.alloc.AllocError.{AllocError}
use Rattle.radio_tables.specs.Visits.{IsVisited}
use Rattle.radio_tables.proofs.VisitLaws.{not_visited, was_visited}
use Rattle.radio_parts_table.proofs.LiveLemmas.{AreRising, its, session_found}

abbrev pub Visits : Delivers → List ℕ → MountPart → Result ℕ AllocError → Delivers → MountPart → Type 0
Visits delivers block part answer delivers' part' = IsDelivered delivers.limit block delivers.moment part answer part'

module _ (delivers delivers' : Delivers) (mount block : List ℕ) (parts later : List MountPart) (named : AreNamed parts) (rising : AreRising parts) where
  abbrev pub new : Session → Session
  new session = longer_kept delivers.limit block delivers.moment session

  abbrev pub Fed : Type 0
  Fed = later ≡ update_first (is_part_of mount) (with_session_changed new) parts

  abbrev fed_live : List Session
  fed_live = kept_fed delivers.limit (live_in parts) mount block delivers.moment

  -- the mount's session afterwards
  fed_session_at : (found : Option Session) → session_of (live_in parts) mount ≡ found → session_of fed_live mount ≡ option_map new found
  fed_session_at None e = ap (λ live. session_of live mount) (none_changes (is_of mount) new (live_in parts) e) ∙ e
  fed_session_at (Some session) e = find_same (is_of mount) new (λ x. refl) (live_in parts) session e

  fed_session : (found : Option MountPart) → find (is_part_of mount) parts ≡ found → session_of fed_live mount ≡ option_map new (its mount found)
  fed_session found e = fed_session_at (its mount found) (session_found mount parts named rising ∙ ap (its mount) e)

  abbrev pub Told : Result ℕ AllocError → Type 0
  Told answer = OnOk answer Fed × IfOk answer (λ end. end ≡ end_in (session_of fed_live mount)) × OnErr answer (later ≡ parts)

  module _ (part now : MountPart) (found : find (is_part_of mount) parts ≡ Some part) (stands : later ≡ update_first (is_part_of mount) (λ _. now) parts) where
    is_told : (answer : Result ℕ AllocError) → Visits delivers block part answer delivers' now → Told answer
    is_told (Ok end) told = (
      stands ∙ changed_alike (is_part_of mount) (λ _. now) (with_session_changed new) part told.1 parts found,
      told.2 ∙ ap (λ (x : MountPart). end_in x.session) told.1 ∙ sym (ap end_in (fed_session (Some part) found)),
      tt,
    )
    is_told (Err refused) told = (tt, tt, stands ∙ unchanged (is_part_of mount) (λ _. now) part told.3 parts found)

  module _ (result : Option (Result ℕ AllocError)) (visited : IsVisited Visits (is_part_of mount) delivers block parts result delivers' later) where
    visited_so : (answer : Option (Result ℕ AllocError)) → result ≡ answer → IsVisited Visits (is_part_of mount) delivers block parts answer delivers' later
    visited_so answer is = subst (λ (a : Option (Result ℕ AllocError)). IsVisited Visits (is_part_of mount) delivers block parts a delivers' later) is visited

    pub was_delivered : (answer : Result ℕ AllocError) → result ≡ Some answer → Told answer
    was_delivered answer is =
        let told = was_visited Visits (is_part_of mount) delivers block parts delivers' later answer (visited_so (Some answer) is) in
        is_told told.0 told.1 told.2 told.3 answer told.4

    -- the mount has no part
    pub is_to_none : result ≡ None → Fed × (later ≡ parts) × (0 ≡ end_in (session_of fed_live mount))
    is_to_none is =
        let none = not_visited Visits (is_part_of mount) delivers block parts delivers' later (visited_so None is) in
        (none.2 ∙ sym (none_changes (is_part_of mount) (with_session_changed new) parts none.0), none.2, sym (ap end_in (fed_session None none.0)))
