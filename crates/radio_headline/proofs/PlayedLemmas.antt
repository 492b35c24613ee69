-- A script that is played to its end has the transcript of its deliveries.
use Rattle.std.proofs.Common.{◌≡◌, ℕ, List, Option, None, Some}
use Rattle.radio_headline.proofs.Words.{Settings, Lists, Delivery, PlayFault, Runs, ScriptState, opening_script, WebAnswers, conduct, HearsSlices, ListenersHearSlices}
use Rattle.radio_script.specs.Transcripts.{run_fault}

-- no fault came, so no delivery stopped it
by_stop : (P : Option ℕ → Type 0) (fault : Option PlayFault) (stop : Option ℕ) → None ≡ run_fault stop fault → P stop → P None
by_stop P fault None e h = h
by_stop P fault (Some number) e h = cc

pub played : ListenersHearSlices → (web : WebAnswers) (settings : Settings) (lists : Lists) (deliveries : List Delivery) (text : List ℕ) (fault : Option PlayFault)
    (stop : Option ℕ) (last : ScriptState) → Runs (conduct web) (opening_script settings lists) 1 deliveries text stop last → None ≡ run_fault stop fault
    → HearsSlices web settings lists deliveries text None
played law web settings lists deliveries text fault stop last run ends =
    by_stop (λ s. HearsSlices web settings lists deliveries text s) fault stop ends (law web settings lists deliveries text stop (last, run))
