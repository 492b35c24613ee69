-- what a block and a title make of one mount's part, told of the whole state
use Rattle.std.proofs.Common.{◌≡◌, false, ℕ, Some, List, ap, ◌∙◌}
use Rattle.radio_parts_changes.proofs.Words.{option_map, bytes_eq, Lagged, with_ended, end_in, Session, session_of, longer, fed, with_title, lags_behind, beside_fed, beside_titled, is_longer, is_titled, received}
use Rattle.radio_parts_changes.proofs.Words.{retitled, World, laggards_ended, block_received, on_air}
use Rattle.radio_parts_mount.proofs.PartLemmas.{in_its_place, end_received}

module _ (w : World) (mount : List ℕ) where
  abbrev with_live : List Session → World
  with_live live = record w { station = record w.station { live = live } }

  pub is_on_air : (title : List ℕ) → on_air w mount title ≡ record w { station = retitled w.station mount title }
  is_on_air title = ap with_live (in_its_place w.station.live mount (with_title (Some title)) w.seats)

  pub on_air_there : (title : List ℕ) (session : Session) → session_of w.station.live mount ≡ Some session
      → session_of (on_air w mount title).station.live mount ≡ Some (with_title (Some title) session)
  on_air_there title session live =
      ap (λ (later : World). session_of later.station.live mount) (is_on_air title) ∙ is_titled w.station.live mount title session live

  pub on_air_beside : (title other : List ℕ) → bytes_eq mount other ≡ false
      → session_of (on_air w mount title).station.live other ≡ session_of w.station.live other
  on_air_beside title other apart =
      ap (λ (later : World). session_of later.station.live other) (is_on_air title) ∙ beside_titled w.station.live mount other apart title

  abbrev lagging : List Session → ℕ → World
  lagging live end = record (with_live live) { seats = with_ended w.seats (lags_behind mount end w.station.settings.limits.queue_size) Lagged }

  pub is_taken_in : (block : List ℕ) → block_received w mount block ≡ laggards_ended (record w { station = received w.station mount block }) mount
  is_taken_in block =
      let longer_now = longer block w.station.time in
      let end = end_in (option_map longer_now (session_of w.station.live mount)) in
      ap (λ (live : List Session). lagging live end) (in_its_place w.station.live mount longer_now w.seats)
      ∙ ap (lagging (fed w.station.live mount block w.station.time)) (end_received w.station.live mount block w.station.time)

  pub taken_in_there : (block : List ℕ) (session : Session) → session_of w.station.live mount ≡ Some session
      → session_of (block_received w mount block).station.live mount ≡ Some (longer block w.station.time session)
  taken_in_there block session live =
      ap (λ (later : World). session_of later.station.live mount) (is_taken_in block) ∙ is_longer w.station.live mount block w.station.time session live

  pub taken_in_beside : (block other : List ℕ) → bytes_eq mount other ≡ false
      → session_of (block_received w mount block).station.live other ≡ session_of w.station.live other
  taken_in_beside block other apart =
      ap (λ (later : World). session_of later.station.live other) (is_taken_in block) ∙ beside_fed w.station.live mount other apart block w.station.time
