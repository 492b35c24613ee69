-- Workers and relays' threads over one hall whose passes are settled, their one history, and what the listeners in it are given.
use Rattle.std.specs.Prelude.{◌≡◌, true, List, [], ◌∷◌, length, map, sum_by}
use Rattle.radio_settings_values.specs.declared.settings.Settings.{Settings}
use Rattle.radio_access.specs.Lists.{Lists}
use Rattle.radio_answers.specs.declared.web_answers.WebAnswers.{WebAnswers}
use Rattle.radio_events.specs.declared.entry.Entry.{Entry}
use Rattle.radio_parts_station.specs.World.{World, opening}
use Rattle.radio_parts_mount.specs.declared.item.MountItem.{MountItem}
use Rattle.radio_chronicle.specs.declared.line.ControlLine.{ControlLine}
use Rattle.radio_chronicle.specs.History.{IsRun}
use Rattle.radio_book.specs.Receipts.{ReceiptOf}
use Rattle.radio_locks.specs.Callers.{IsCalled}
use Rattle.radio_hall.specs.Settling.{IsSettled}
use Rattle.radio_hall.specs.Woven.{AreWoven}
use Rattle.radio_serving.specs.Watching.{WatchedOf, WatchedSteps}
use Rattle.radio_stations.specs.Stations.{AreDisjoint, StationHearsSlices, both_rolls}
use Rattle.radio_stations.specs.Work.{HasWorked, IsOfConnections, Made, Roll, made_entries, nobody_came}

-- What a worker or a relay's thread did from this state of a hall that stores its entries, with these settings. Its pass had no receipt as it began.
pub record WorkAtHall (start : World) (web : WebAnswers) : Type 0 where
  pub made : List Made
  pub roll : Roll
  pub first : WatchedOf (List ReceiptOf)
  pub last : WatchedOf (List ReceiptOf)
  pub worked : HasWorked (WatchedSteps (IsCalled true start)) web first made last roll
  pub empty : first.server ≡ []

module _ {start : World} {web : WebAnswers} where
  -- the receipts of each worker's pass
  abbrev pub passes_of : List (WorkAtHall start web) → List (List ReceiptOf)
  passes_of workers = map (λ (worker : WorkAtHall start web). worker.last.server) workers

  -- what each worker made
  abbrev pub all_made : List (WorkAtHall start web) → List (List Made)
  all_made workers = map (λ (worker : WorkAtHall start web). worker.made) workers

  -- what the workers have under each label
  abbrev pub joint_roll : List (WorkAtHall start web) → Roll
  joint_roll [] = nobody_came
  joint_roll (worker ∷ workers) = both_rolls worker.roll (joint_roll workers)

  -- no label is known to two of them
  abbrev pub HaveOwnLabels : List (WorkAtHall start web) → Type 0
  HaveOwnLabels [] = Unit {0}
  HaveOwnLabels (worker ∷ workers) = AreDisjoint worker.roll (joint_roll workers) × HaveOwnLabels workers

-- The history is woven of what each of these made. So it is of the connections and pulls of all of them, and its listeners are given slices of
-- what their sources brought.
pub record IsOfWorkers {start : World} {web : WebAnswers} (settings : Settings) (lists : Lists) (workers : List (WorkAtHall start web)) (history : List Entry) : Type 0 where
  pub made : List Made
  pub same : made_entries made ≡ history
  pub woven : AreWoven (all_made workers) made
  pub of_connections : IsOfConnections web made (joint_roll workers)
  pub hears : StationHearsSlices web settings lists made (joint_roll workers)

-- If `settle` ends well with the passes of these, and no label is known to two of them, then its history is of them. The last three premises
-- are what `settle` ensures of its history, for a hall that was opened with these settings and lists.
abbrev pub SettledStationsHearSlices : Type 0
SettledStationsHearSlices = (start : World) (web : WebAnswers) (settings : Settings) (lists : Lists) (workers : List (WorkAtHall start web))
    (control : List ControlLine) (mounts : List (List MountItem)) (history : List Entry)
    → HaveOwnLabels workers
    → IsRun (opening settings lists) history → IsSettled control mounts (passes_of workers) history → length history ≡ sum_by length (passes_of workers)
    → IsOfWorkers settings lists workers history
