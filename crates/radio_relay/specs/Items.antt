-- What is pulled in, as items: each run of sound in blocks.
use Rattle.std.specs.Prelude.{◌≡◌, ℕ, List, [], ◌∷◌, ◌++◌, map}
use Rattle.radio_blocks.specs.Cutting.{blocks_of}
use Rattle.radio_relay.specs.declared.fault.PullFault.{PullFault}
use Rattle.radio_relay.specs.declared.items.PullItem.{PullItem}
use Rattle.radio_relay.specs.declared.items.PullItem.TheVariants.{Up, Sound, Title}
use Rattle.radio_relay.specs.declared.pull.PullStage.{PullStage}
use Rattle.radio_relay.specs.Pulled.{PulledPart, ShownPart, SoundPart, TitlePart, Pulled, GoesOn, stops, IsPulledAt}

-- items that are gathered: those that are complete, and the sound after them
pub record Gathered : Type 0 where
  pub complete : List PullItem
  pub run : List ℕ

abbrev pub nothing_gathered : Gathered
nothing_gathered = record { complete = []; run = [] }

-- all of them, the last run cut into blocks
abbrev pub all_items : Gathered → List PullItem
all_items gathered = gathered.complete ++ map Sound (blocks_of gathered.run)

-- the run is over
abbrev pub run_ended : Gathered → Gathered
run_ended gathered = record { complete = all_items gathered; run = [] }

-- the run is over, and this item follows
abbrev pub with_item : Gathered → PullItem → Gathered
with_item gathered item = record { complete = all_items gathered ++ item ∷ []; run = [] }

-- sound goes on the run; what the head shows and a title end it
abbrev pub with_gathered_part : Gathered → PulledPart → Gathered
with_gathered_part gathered (ShownPart shown) = with_item gathered (Up shown)
with_gathered_part gathered (SoundPart b) = record gathered { run = gathered.run ++ b ∷ [] }
with_gathered_part gathered (TitlePart title) = with_item gathered (Title title)

abbrev pub with_parts : Gathered → List PulledPart → Gathered
with_parts gathered [] = gathered
with_parts gathered (part ∷ parts) = with_parts (with_gathered_part gathered part) parts

-- the items of some parts
-- rule: Pulled stream
abbrev pub items_of : List PulledPart → List PullItem
items_of parts = all_items (with_parts nothing_gathered parts)

-- a feed answers the items of what is pulled in, and the pull goes on so
pub record Answers (pulled : Pulled) (items : List PullItem) (next : PullStage) : Type 0 where
  pub brought : items ≡ items_of pulled.parts
  pub goes_on : pulled.standing ≡ GoesOn next

-- at this stage the bytes are answered by these items, and the pull goes on so
abbrev pub GivesItems : PullStage → List ℕ → List PullItem → PullStage → Type 0
GivesItems stage bytes items next = (pulled : Pulled) × IsPulledAt stage bytes pulled × Answers pulled items next

-- at this stage the bytes are answered by this fault
abbrev pub IsRefusedPull : PullStage → List ℕ → PullFault → Type 0
IsRefusedPull stage bytes fault = IsPulledAt stage bytes (stops fault)
