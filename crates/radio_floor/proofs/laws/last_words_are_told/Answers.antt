use Rattle.std.proofs.Common.{refl}
use Rattle.radio_floor.proofs.LastWordLemmas.{commands_are_told, denials_are_told, denied_arrivals_are_told, faulty_bodies_are_told, finishes_are_told, refusals_are_told, whole_bodies_are_told}
use Rattle.radio_floor.proofs.laws.last_words_are_told.Goals as goal

pub returns : goal.returns
returns c =
    let words = c.last_words_name_the_rule.ensures in
    record {
      arrivals = denied_arrivals_are_told words.denied words.no_status;
      denied = denials_are_told words.denied;
      refused = refusals_are_told words.refused;
      finished = finishes_are_told words.finished;
      command = commands_are_told words.command;
      faulty = faulty_bodies_are_told words.faulty;
      whole = whole_bodies_are_told words.whole;
      done = λ state label conversation. refl;
    }
