use Rattle.radio_headline.proofs.Words.{deliveries_from, fault_from, script_lines}
use Rattle.radio_headline.proofs.PlayedLemmas.{played}
use Rattle.radio_headline.proofs.laws.played_scripts_hear_slices.Goals as goal

pub returns : goal.returns
returns c web settings lists script left text done turns plays =
    let transcript = plays.1.1.transcript in
    played c.listeners_hear_slices.ensures.scripts web settings lists (deliveries_from 1 (script_lines script)) text (fault_from 1 (script_lines script)) transcript.stop
    plays.0 transcript.run transcript.ends
