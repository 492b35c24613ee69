-- Workers and relays' threads over one hall, from passes without receipts on, their one history, and what the listeners in it are given.
use Rattle.std.specs.Prelude.{◌≡◌, ◌<◌, ◌++◌, ℕ, true, List, [], length, map, All, IfSome, Option, slice_index_or, sum_by}
use Rattle.std.specs.List.{filter_map}
use Rattle.radio_settings_values.specs.declared.settings.RelaySetting.{RelaySetting}
use Rattle.radio_settings_values.specs.declared.settings.Settings.{Settings}
use Rattle.radio_access.specs.Lists.{Lists}
use Rattle.radio_answers.specs.declared.web_answers.WebAnswers.{WebAnswers}
use Rattle.radio_events.specs.declared.entry.Entry.{Entry}
use Rattle.radio_parts_station.specs.World.{World, opening}
use Rattle.radio_parts_mount.specs.declared.item.MountItem.{MountItem}
use Rattle.radio_chronicle.specs.declared.line.ControlLine.{ControlLine}
use Rattle.radio_chronicle.specs.History.{IsRun}
use Rattle.radio_book.specs.Receipts.{ReceiptOf}
use Rattle.radio_locks.specs.Callers.{IsCalled, MayBeRefused}
use Rattle.radio_pullers.specs.Threads.{HasPulled}
use Rattle.radio_hall.specs.Settling.{IsSettled}
use Rattle.radio_workers.specs.Working.{IsWorkOf}
use Rattle.radio_stations.specs.Settled.{HaveOwnLabels, IsOfWorkers, WorkAtHall, passes_of}

module _ (Slot : Type 0) (pass_of : Slot → Option (List ReceiptOf)) where
  -- the passes that are at these slots, in their order
  abbrev pub slot_passes : List Slot → List (List ReceiptOf)
  slot_passes slots = filter_map pass_of slots

  -- The slots before and after workers worked at them, over a hall that stores its entries and began in this state. No pass had a receipt. What
  -- was done through each pass is the work of the worker there.
  pub record AreWorkedAt (start : World) (web : WebAnswers) (before after : List Slot) : Type 0 where
    pub count : length after ≡ length before
    pub no_receipts : All (λ slot. IfSome (pass_of slot) (λ receipts. receipts ≡ [])) before
    pub work : (i : ℕ) (d : Slot) → i < length before
        → IsWorkOf (IsCalled true start) (MayBeRefused true) web (pass_of (slice_index_or before i d)) (pass_of (slice_index_or after i d))

-- What a relay's thread did over such a hall: it made only pulls of its relay by its pass. The pass had no receipt as it began.
pub record RelayAtHall (start : World) : Type 0 where
  pub relay : RelaySetting
  pub pass : List ReceiptOf
  pub done : HasPulled (IsCalled true start) (MayBeRefused true) relay [] pass

-- the passes of relays' threads
abbrev pub relay_passes : {start : World} → List (RelayAtHall start) → List (List ReceiptOf)
relay_passes {start} relays = map (λ (thread : RelayAtHall start). thread.pass) relays

-- these workers and relays' threads have these passes, and no label is known to two of them
pub record AreWorkersAt (start : World) (web : WebAnswers) (all : List (List ReceiptOf)) : Type 0 where
  pub workers : List (WorkAtHall start web)
  pub passes : passes_of workers ≡ all
  pub own : HaveOwnLabels workers

-- Workers at the slots of a hall, and relays' threads over it, have labels of their own. What they made is of their connections and pulls.
-- If `settle` ends well with the passes at the slots and those of the relays' threads, its history is of all of them. The last three
-- premises are what `settle` ensures of its history, for a hall that was opened with these settings and lists.
abbrev pub RunningStationsHearSlices : (Slot : Type 0) → Type 0
RunningStationsHearSlices Slot = (pass_of : Slot → Option (List ReceiptOf)) (start : World) (web : WebAnswers) (before after : List Slot)
    (relays : List (RelayAtHall start)) → AreWorkedAt Slot pass_of start web before after
    → (at : AreWorkersAt start web (slot_passes Slot pass_of after ++ relay_passes relays))
    × ((settings : Settings) (lists : Lists) (control : List ControlLine) (mounts : List (List MountItem)) (history : List Entry)
    → IsRun (opening settings lists) history → IsSettled control mounts (slot_passes Slot pass_of after ++ relay_passes relays) history
    → length history ≡ sum_by length (slot_passes Slot pass_of after ++ relay_passes relays) → IsOfWorkers settings lists at.workers history)
