-- what the rows of a command say that the policy allows
use Rattle.std.proofs.Common.{◌≡◌, ◌∙◌, Bool, true, false, List, [], ◌∷◌, refl, ap, sym}
use Rattle.radio_core.proofs.Words.{not, Allow, Rule, NoMount, NoDestination, SameMount, NoClient, NoUsers, NoUser, Row, row, needs_rows, password_rule, command_rows, verdict_in, Asked, Command, Event, IsCommanded}
use Rattle.radio_core.proofs.Words.{facts_asked, needs_of, opened_by, opener_in, opens, World}

-- a pair that opens it was sent, and the rows behind allow it
pub past_sent : (rule : Rule) (sent : Bool) (rows : List Row) → verdict_in (row rule (not sent) ∷ rows) ≡ Allow → (sent ≡ true) × (verdict_in rows ≡ Allow)
past_sent rule true rows e = (refl, e)
past_sent rule false rows e = cc

-- what a command needs is there
pub may_act : (live : Bool) → verdict_in (row NoMount (not live) ∷ []) ≡ Allow → live ≡ true
may_act true e = refl
may_act false e = cc

pub may_kill : (live sits : Bool) → verdict_in (row NoMount (not live) ∷ row NoClient (not sits) ∷ []) ≡ Allow → sits ≡ true
may_kill true true e = refl
may_kill true false e = cc
may_kill false sits e = cc

pub may_move : (live there same : Bool) → verdict_in (row NoMount (not live) ∷ row NoDestination (not there) ∷ row SameMount same ∷ []) ≡ Allow
    → same ≡ false
may_move true true false e = refl
may_move true true true e = cc
may_move true false same e = cc
may_move false there same e = cc

pub may_go : (live there same : Bool) → verdict_in (row NoMount (not live) ∷ row NoDestination (not there) ∷ row SameMount same ∷ []) ≡ Allow
    → there ≡ true
may_go true true same e = refl
may_go true false same e = cc
may_go false there same e = cc

pub may_add : (has_users : Bool) → verdict_in (row NoUsers (not has_users) ∷ []) ≡ Allow → has_users ≡ true
may_add true e = refl
may_add false e = cc

pub may_delete : (has_users is_listed : Bool) → verdict_in (row NoUsers (not has_users) ∷ row NoUser (not is_listed) ∷ []) ≡ Allow → is_listed ≡ true
may_delete true true e = refl
may_delete true false e = cc
may_delete false is_listed e = cc

module _ (w : World) (event : Event) {command : Command} (c : IsCommanded w event command) where
  opened_past : (opens w.station.settings (opened_by command) c.asked.pair ≡ true) × (verdict_in (needs_rows (needs_of w command)) ≡ Allow)
  opened_past =
      past_sent (password_rule (opener_in (opened_by command))) (opens w.station.settings (opened_by command) c.asked.pair) (needs_rows (needs_of w command))
      (ap (λ (a : Asked). verdict_in (command_rows (facts_asked w a c.asked.pair))) (sym c.is_asked) ∙ c.allowed)

  -- the pair that was sent opens the command
  pub is_opened : opens w.station.settings (opened_by command) c.asked.pair ≡ true
  is_opened = opened_past.0

  -- what it needs is there
  pub needs_hold : verdict_in (needs_rows (needs_of w command)) ≡ Allow
  needs_hold = opened_past.1
