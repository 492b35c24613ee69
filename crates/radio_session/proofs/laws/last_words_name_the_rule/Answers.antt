use Rattle.std.proofs.Common.{refl}
use Rattle.radio_session.proofs.LastWordLemmas as lemmas
use Rattle.radio_session.proofs.laws.last_words_name_the_rule.Goals as goal

pub returns : goal.returns
returns c = record {
  denied = lemmas.denials_name_their_rule;
  no_status = lemmas.rules_without_status_are_silent;
  denied_late = lemmas.late_denials_are_silent;
  finished = lemmas.finishes_are_silent;
  command = lemmas.commands_are_answered;
  refused = lemmas.refusals_name_their_rule;
  whole = lemmas.whole_bodies_are_done;
  faulty = lemmas.faulty_bodies_are_silent;
  done = refl;
}
