-- Whether the client of a connection was let in, by its course.
use Rattle.std.proofs.Common.{◌≡◌, ℕ, true, false, List, [], ◌++◌, refl, sym, subst, ◌∙◌}
use Rattle.radio_stations.proofs.Words.{Event, Arrived, asking, said, Fate, Open, Closed, Cut, Arrival, LetsNobodyIn, Standing, Course, arrives, turned_away, hears, has_room, applies, closes, is_cut, passes_over, leaves}

-- a client that was let in has the number of the reply to its arrival
pub let_in_so : (arrival : Arrival) (id : ℕ) (s : Standing) → Course arrival id s → (him : ℕ) → arrival.reply ≡ Arrived him → arrival.reply ≡ Arrived id
let_in_so arrival id s (arrives came) him e = came
let_in_so arrival id s (turned_away nobody) him e = absurd (subst LetsNobodyIn e nobody)
let_in_so arrival id s (hears before course quiet bytes heard is) him e = let_in_so arrival id before course him e
let_in_so arrival id s (has_room before course quiet room) him e = let_in_so arrival id before course him e
let_in_so arrival id s (applies before course goes event later some reply) him e = let_in_so arrival id before course him e
let_in_so arrival id s (closes before course goes none) him e = let_in_so arrival id before course him e
let_in_so arrival id s (is_cut before course unheard) him e = let_in_so arrival id before course him e
let_in_so arrival id s (passes_over before course ended bytes) him e = let_in_so arrival id before course him e
let_in_so arrival id s (leaves before course over here reply) him e = let_in_so arrival id before course him e

-- the connection of nobody, whose client was not let in
pub record IsNobodys (arrival : Arrival) (s : Standing) : Type 0 where
  pub none : s.entries ≡ []
  pub text : s.text ≡ (said (asking arrival.web) arrival.reply).bytes
  pub gone : s.has_left ≡ true
  pub over : s.fate ≡ Open → ⊥

nobody_on : (arrival : Arrival) (s : Standing) → IsNobodys arrival s → (given : List ℕ) (pending : List Event) (fate : Fate) → (fate ≡ Open → ⊥)
    → IsNobodys arrival (record s { given = given; pending = pending; fate = fate })
nobody_on arrival s n given pending fate over = record { none = n.none; text = n.text; gone = n.gone; over = over }

module _ (arrival : Arrival) (id : ℕ) (nobody : LetsNobodyIn arrival.reply) where
  pub nobodys_so : (s : Standing) → Course arrival id s → IsNobodys arrival s
  nobodys_so s (arrives came) = absurd (subst LetsNobodyIn came nobody)
  nobodys_so s (turned_away same) = record { none = refl; text = refl; gone = refl; over = λ is_open. cc }
  nobodys_so s (hears before course quiet bytes heard is) = absurd ((nobodys_so before course).over quiet.0)
  nobodys_so s (has_room before course quiet room) = absurd ((nobodys_so before course).over quiet.0)
  nobodys_so s (applies before course goes event later some reply) = absurd ((nobodys_so before course).over goes)
  nobodys_so s (closes before course goes none) = nobody_on arrival before (nobodys_so before course) before.given before.pending Closed (λ e. cc)
  nobodys_so s (is_cut before course unheard) = nobody_on arrival before (nobodys_so before course) (before.given ++ unheard) [] Cut (λ e. cc)
  nobodys_so s (passes_over before course ended bytes) =
      let n = nobodys_so before course in nobody_on arrival before n (before.given ++ bytes) before.pending before.fate n.over
  nobodys_so s (leaves before course over here reply) = absurd (let both : true ≡ false = sym (nobodys_so before course).gone ∙ here in cc)
