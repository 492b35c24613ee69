-- Each step of an intake keeps its rule.
use Rattle.std.proofs.Common.{◌≡◌, ℕ, zero, suc, ◌+◌, ◌<◌, List, [], ◌∷◌, ◌++◌, length, set, refl, ap, subst, ⊎_elim, arith}
use Rattle.std.proofs.Common.{Result, Ok, Err, MatchResult}
use mathlib.Core.Option.{some}
use lib.ListN.{get_elem?}
use Rattle.crossbeam_queue.specs.Fifo.{Pushes, Pops, Forks, Merges, Learns, Held}
use Rattle.crossbeam_queue.proofs.Lists.{at_set, at_snoc}
use Rattle.radio_workers.proofs.Words.{ROOM, all_parts, weigh, IdleIsEmpty, IsBalanced, IsKnown, IsPut, IsTaken, idle, less_one, sum_of_transfers, put_by, taken_by, sum_of, part_count}
use Rattle.radio_workers.specs.declared.rule.Transfers.{Transfers}
use Rattle.radio_workers.proofs.Sums.{lengths-add_up, total-append, total-set, weigh-append}

module _ {L : Type 0} where
  -- it has put and taken nothing
  abbrev IsBare : Transfers L → Type 0
  IsBare transfers = (transfers.put ≡ []) × (transfers.taken ≡ [])

  -- it has, if it has no part
  abbrev IsIdle : Transfers L → Type 0
  IsIdle transfers = transfers.parts ≡ 0 → IsBare transfers

  idle-set : (threads : List (Transfers L)) (pass : ℕ) (new : Transfers L) → IsIdle new → IdleIsEmpty threads → IdleIsEmpty (set threads pass new)
  idle-set threads pass new bare h i transfers at none =
      ⊎_elim (λ here. subst IsIdle here.1 bare none) (λ there. h i transfers there.1 none) (at_set threads pass i new transfers at)

  idle-append : (threads : List (Transfers L)) (new : Transfers L) → IsIdle new → IdleIsEmpty threads → IdleIsEmpty (threads ++ new ∷ [])
  idle-append threads new bare h i transfers at none =
      ⊎_elim (λ there. h i transfers there none) (λ here. subst IsIdle here bare none) (at_snoc threads new transfers i at)

  -- if no thread has a part, no thread has put or taken anything
  total-idle : (f : Transfers L → ℕ) → ((transfers : Transfers L) → IsBare transfers → f transfers ≡ 0) → (threads : List (Transfers L))
      → IdleIsEmpty threads → sum_of part_count threads ≡ 0 → sum_of f threads ≡ 0
  total-idle f bare [] h none = refl
  total-idle f bare (transfers ∷ threads) h none =
      let first = bare transfers (h zero transfers refl (omega arith)) in
      omega (arith, total-idle f bare threads (λ i x at. h (suc i) x at) (omega arith))

  -- if one thread has all parts, the total is that thread's
  total-alone : (f : Transfers L → ℕ) → ((transfers : Transfers L) → IsBare transfers → f transfers ≡ 0) → (threads : List (Transfers L)) (pass : ℕ) (transfers : Transfers L)
      → get_elem? threads pass ≡ some transfers → IdleIsEmpty threads → sum_of part_count threads ≡ transfers.parts → sum_of f threads ≡ f transfers
  total-alone f bare threads pass transfers at h all =
      let parts = total-set part_count threads pass transfers (idle 0) at in
      let others = total-set f threads pass transfers (idle 0) at in
      let nothing = bare (idle 0) (refl, refl) in
      omega (arith, total-idle f bare (set threads pass (idle 0)) (idle-set threads pass (idle 0) (λ _. (refl, refl)) h) (omega arith))

  pub knows : (pass : ℕ) (transfers : Transfers L) → Learns IsBalanced pass transfers (IsKnown transfers)
  knows pass transfers left threads h at all weight =
      let parts = h.0 in
      let sums = h.1 weight in
      omega (
        arith,
        total-alone (put_by weight) (λ x b. ap (weigh weight) b.0) threads pass transfers at h.2 (omega arith),
        total-alone (taken_by weight) (λ x b. ap (weigh weight) b.1) threads pass transfers at h.2 (omega arith),
      )

  -- a thread with a part puts or takes, and what is left changes with it
  steps : (left left' : List L) (threads : List (Transfers L)) (pass : ℕ) (transfers new : Transfers L) → IsBalanced left threads → get_elem? threads pass ≡ some transfers
      → 0 < transfers.parts → new.parts ≡ transfers.parts
      → ((weight : L → ℕ) → put_by weight new + taken_by weight transfers + weigh weight left ≡ put_by weight transfers + taken_by weight new + weigh weight left')
      → IsBalanced left' (set threads pass new)
  steps left left' threads pass transfers new h at part same moves = (
    (let parts = total-set part_count threads pass transfers new at in let all = h.0 in omega arith),
    (λ weight.
        let put = total-set (put_by weight) threads pass transfers new at in
        let taken = total-set (taken_by weight) threads pass transfers new at in
        let sums = h.1 weight in
        omega (arith, moves weight)),
    idle-set threads pass new (λ none. absurd (omega arith)) h.2,
  )

  pub puts : (room pass : ℕ) (transfers : Transfers L) (line : L) → room ≡ ROOM → 0 < transfers.parts → Pushes IsBalanced room pass transfers line (IsPut transfers line)
  puts room pass transfers line is_room part left threads fits h at =
      let new : Transfers L = record transfers { put = transfers.put ++ line ∷ [] } in (
        new,
        steps left (left ++ line ∷ []) threads pass transfers new h at part refl
            (λ weight. omega (arith, weigh-append weight transfers.put (line ∷ []), weigh-append weight left (line ∷ []))),
        (refl, left, omega arith, knows pass transfers left threads h at),
      )

  pub takes : (pass : ℕ) (transfers : Transfers L) → 0 < transfers.parts → Pops IsBalanced pass transfers (IsTaken transfers)
  takes pass transfers part line left threads h at =
      let new : Transfers L = record transfers { taken = transfers.taken ++ line ∷ [] } in (
        new,
        steps (line ∷ left) left threads pass transfers new h at part refl (λ weight. omega (arith, weigh-append weight transfers.taken (line ∷ []))),
        refl,
      )

  pub splits : (pass : ℕ) (transfers : Transfers L) → 1 < transfers.parts → Forks IsBalanced pass transfers (less_one transfers) (idle 1)
  splits pass transfers parts left threads h at =
      let old = set threads pass (less_one transfers) in (
        (let fewer = total-set part_count threads pass transfers (less_one transfers) at in let all = h.0 in omega (arith, total-append part_count old (idle 1))),
        (λ weight.
            let put = total-set (put_by weight) threads pass transfers (less_one transfers) at in
            let taken = total-set (taken_by weight) threads pass transfers (less_one transfers) at in
            let sums = h.1 weight in
            omega (arith, total-append (put_by weight) old (idle 1), total-append (taken_by weight) old (idle 1))),
        idle-append old (idle 1) (λ _. (refl, refl)) (idle-set threads pass (less_one transfers) (λ none. absurd (omega arith)) h.2),
      )

  -- what two have, as of one, and nothing of the other
  total-merge : (f : Transfers L → ℕ) (threads : List (Transfers L)) (pass : ℕ) (transfers : Transfers L) (other : ℕ) (transfers' : Transfers L) → get_elem? threads pass ≡ some transfers
      → get_elem? (set threads pass (sum_of_transfers transfers transfers')) other ≡ some transfers' → f (sum_of_transfers transfers transfers') ≡ f transfers + f transfers' → f (idle 0) ≡ 0
      → sum_of f (set (set threads pass (sum_of_transfers transfers transfers')) other (idle 0)) ≡ sum_of f threads
  total-merge f threads pass transfers other transfers' at at' adds nothing =
      let first = total-set f threads pass transfers (sum_of_transfers transfers transfers') at in
      let second = total-set f (set threads pass (sum_of_transfers transfers transfers')) other transfers' (idle 0) at' in
      omega arith

  pub joins : (pass : ℕ) (transfers : Transfers L) (other : ℕ) (transfers' : Transfers L) → 0 < transfers.parts
      → Merges IsBalanced pass transfers other transfers' (sum_of_transfers transfers transfers') (idle 0)
  joins pass transfers other transfers' part left threads h at apart at' = (
    (let all = h.0 in omega (arith, total-merge part_count threads pass transfers other transfers' at at' refl refl)),
    (λ weight.
        let sums = h.1 weight in
        omega (
          arith,
          total-merge (put_by weight) threads pass transfers other transfers' at at' (weigh-append weight transfers.put transfers'.put) refl,
          total-merge (taken_by weight) threads pass transfers other transfers' at at' (weigh-append weight transfers.taken transfers'.taken) refl,
        )),
    idle-set (set threads pass (sum_of_transfers transfers transfers')) other (idle 0) (λ _. (refl, refl))
        (idle-set threads pass (sum_of_transfers transfers transfers') (λ none. absurd (omega arith)) h.2),
  )

  -- for the thread that has all parts, what it has put and taken says whether there was room
  pub room-known : (result : Result (Unit {0}) L) (room : ℕ) (transfers transfers' : Transfers L) (line : L) → room ≡ ROOM
      → MatchResult result (λ _. IsPut transfers line transfers') (λ x. (x ≡ line) × (transfers' ≡ transfers) × Held room (IsKnown transfers)) → transfers.parts ≡ all_parts
      → MatchResult result (λ _. length transfers.put < length transfers.taken + ROOM) (λ _. length transfers.put ≡ length transfers.taken + ROOM)
  room-known (Ok _) room transfers transfers' line is_room h all = let fits = h.2 in omega (arith, lengths-add_up transfers.put transfers.taken h.1 (h.3 all))
  room-known (Err _) room transfers transfers' line is_room h all =
      let full = h.2.1 in omega (arith, lengths-add_up transfers.put transfers.taken h.2.0 (h.2.2 all))
