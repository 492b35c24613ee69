use Rattle.radio_laws.proofs.Words.{run_after, sound_run}
use Rattle.radio_laws.proofs.Commands.CommandLaws.{only_who_may, commands_are_kept, killed_hear_nothing}
use Rattle.radio_laws.proofs.Commands.CommandService.{who_may_is_served}
use Rattle.radio_laws.proofs.Ends.FallbackLemmas.{fallbacks_stay}
use Rattle.radio_laws.proofs.laws.commands_are_done.Goals as goal

pub returns-clause-may : goal.returns-clause-may
returns-clause-may c settings lists events event = only_who_may (run_after settings lists events) (sound_run settings lists events) event

pub returns-clause-kept : goal.returns-clause-kept
returns-clause-kept c settings lists events event = commands_are_kept (run_after settings lists events) (sound_run settings lists events) event

pub returns-clause-silent : goal.returns-clause-silent
returns-clause-silent c settings lists events event = killed_hear_nothing (run_after settings lists events) (sound_run settings lists events) event

pub returns-clause-served : goal.returns-clause-served
returns-clause-served c settings lists events = who_may_is_served (run_after settings lists events) (sound_run settings lists events)

pub returns-clause-fallbacks : goal.returns-clause-fallbacks
returns-clause-fallbacks c settings lists events event = fallbacks_stay (run_after settings lists events) event
