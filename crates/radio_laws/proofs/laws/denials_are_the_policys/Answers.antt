use Rattle.radio_laws.proofs.Words.{run_after}
use Rattle.radio_laws.proofs.Denials.DeniedLemmas.{policy_denies}
use Rattle.radio_laws.proofs.Denials.DenialLemmas.{denials_hold, addresses_hold, only_sources_feed, known_mounts}
use Rattle.radio_laws.proofs.Denials.StopLemmas.{stopped_in_order}
use Rattle.radio_laws.proofs.laws.denials_are_the_policys.Goals as goal

pub returns-clause-denied : goal.returns-clause-denied
returns-clause-denied c settings lists events event = denials_hold c.denials_name_the_first_rule.ensures.denies (run_after settings lists events) event

pub returns-clause-denies : goal.returns-clause-denies
returns-clause-denies c settings lists events = policy_denies c.denials_name_the_first_rule.ensures.denies (run_after settings lists events)

pub returns-clause-addresses : goal.returns-clause-addresses
returns-clause-addresses c settings lists events = addresses_hold (run_after settings lists events)

pub returns-clause-sources : goal.returns-clause-sources
returns-clause-sources c settings lists events event = only_sources_feed (run_after settings lists events) event

pub returns-clause-known : goal.returns-clause-known
returns-clause-known c settings lists events asked = known_mounts (run_after settings lists events) asked

pub returns-clause-stops : goal.returns-clause-stops
returns-clause-stops c settings lists events asked = stopped_in_order (run_after settings lists events) asked
