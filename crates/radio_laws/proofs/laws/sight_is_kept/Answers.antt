use Rattle.radio_laws.proofs.Words.{run_after}
use Rattle.radio_laws.proofs.Listings.ListingLaws.{only_who_may_is_shown, who_may_is_shown}
use Rattle.radio_laws.proofs.Listings.SightLemmas.{hidden_are_left_out, hidden_are_not_told_on_the_web, sight_is_kept}
use Rattle.radio_laws.proofs.Listings.WebLaws.{who_visits_is_shown, nobody_feeds_a_path}
use Rattle.radio_laws.proofs.laws.sight_is_kept.Goals as goal

pub returns-clause-may : goal.returns-clause-may
returns-clause-may c settings lists events event = only_who_may_is_shown (run_after settings lists events) event

pub returns-clause-served : goal.returns-clause-served
returns-clause-served c settings lists events = who_may_is_shown (run_after settings lists events)

pub returns-clause-visited : goal.returns-clause-visited
returns-clause-visited c settings lists events = who_visits_is_shown (run_after settings lists events)

pub returns-clause-unfed : goal.returns-clause-unfed
returns-clause-unfed c settings lists events = nobody_feeds_a_path (run_after settings lists events)

pub returns-clause-untold : goal.returns-clause-untold
returns-clause-untold c settings lists events =
    hidden_are_not_told_on_the_web (run_after settings lists events) c.hidden_mounts_are_left_out.ensures.icecast

pub returns-clause-hidden : goal.returns-clause-hidden
returns-clause-hidden c settings lists events = hidden_are_left_out (run_after settings lists events) c.hidden_mounts_are_left_out.ensures.status

pub returns-clause-alike : goal.returns-clause-alike
returns-clause-alike c settings others lists files events more =
    sight_is_kept c.sight_is_kept.ensures (run_after settings lists events) (run_after others files more)
