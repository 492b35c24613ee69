-- The facts that the log has of a relay and of a slave's list.
use Rattle.std.specs.Prelude.{ℕ, Bool, ◌&&◌, not, List, [], ◌++◌, codes, decimal}
use Rattle.radio_events.specs.declared.state.Ending.TheVariants.{By as ByRule}
use Rattle.radio_events.specs.Endings.{ending_word}
use Rattle.radio_log.specs.declared.facts.Fact.{Fact}
use Rattle.radio_log.specs.declared.facts.Fact.TheVariants.{RelayUp, RelayGone, RelayFailed, MountGone, Title, Warning}
use Rattle.radio_notes.specs.Ends.{mount_word_by}
use Rattle.radio_settings_values.specs.declared.settings.Master.{Master}
use Rattle.radio_masters.specs.declared.relay_end.RelayEnd.{RelayEnd}
use Rattle.radio_masters.specs.declared.relay_end.RelayEnd.TheVariants.{NoAddress, NoAnswer, Status, Left, By, NotWished, OutOfMemory}
use Rattle.radio_masters.specs.declared.relay_log.PullEnd.{PullEnd}

-- the word for the end of a relay
abbrev pub relay_word : RelayEnd → List ℕ
relay_word NoAddress = codes "no-address"
relay_word NoAnswer = codes "no-answer"
relay_word (Status status) = codes "status-" ++ decimal status
relay_word Left = codes "left"
relay_word (By ending) = ending_word ending
relay_word NotWished = codes "not-wished"
relay_word OutOfMemory = codes "out-of-memory"

-- the word for the end of its mount
abbrev pub relay_mount_word : RelayEnd → List ℕ
relay_mount_word (By (ByRule rule)) = mount_word_by rule
relay_mount_word end = codes "source-left"

-- a master as the log names it: its name and its port
abbrev pub master_text : Master → List ℕ
master_text master = master.server ++ codes ":" ++ decimal master.port

-- a relay feeds a mount, and the mount is live
abbrev pub up_fact : List ℕ → List ℕ → List ℕ → Fact
up_fact mount master content_type = RelayUp (record { mount = mount; master = master; content_type = content_type })

-- a title is on the air at a mount
abbrev pub title_fact : List ℕ → List ℕ → Fact
title_fact mount title = Title (record { mount = mount; title = title })

-- a relay feeds its mount no more
-- rule: Failures of relays
abbrev pub gone_fact : List ℕ → List ℕ → List ℕ → PullEnd → ℕ → Fact
gone_fact mount master why end sound =
    RelayGone (record { mount = mount; master = master; why = why; seconds = end.seconds; bytes = sound })

-- the mount of a relay whose pull has ended so is live no more
abbrev pub mount_gone_fact : List ℕ → PullEnd → Fact
mount_gone_fact mount end = MountGone mount (relay_mount_word end.why)

-- a relay has failed, so often
-- rule: Failures of relays
abbrev pub failed_fact : List ℕ → List ℕ → List ℕ → ℕ → Fact
failed_fact mount master why times = RelayFailed (record { mount = mount; master = master; why = why; times = times })

-- a slave's list has more names than are relayed
abbrev pub long_list : Fact
long_list = Warning (record {
  why = codes "long-list";
  key = codes "master-server";
  mount = [];
  limit = 10000;
  place = record { table = []; line = 0; did_you_mean = []; belongs_to = [] };
})

-- the first list is logged that is too long after one that was not
abbrev pub is_newly_long : Bool → Bool → Bool
is_newly_long was_long is_long = is_long && not was_long
