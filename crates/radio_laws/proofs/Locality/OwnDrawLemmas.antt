-- a draw by the part of its mount is the server's
use Rattle.std.proofs.Common.{◌≡◌, ◌≤◌, ◌+◌, Bool, true, false, ℕ, ◌==◌, Option, Some, None, List, [], length, refl, ap, sym, subst, ◌∙◌, zero, suc}
use Rattle.radio_laws.proofs.Words.{find, take, drop, if◌then◌else◌, option_map, option_map_or, option_or, eqb-true, bytes_eq-Decides, update_first, find_same, find_apart, found_has, Attachment, is_attached, AreInOrder}
use Rattle.radio_laws.proofs.Words.{in_order_updated, Listener, Seat, seat_in, seat_of, with_place, beside_moved, has_heard, Settings, first_start, kept_from, kept_session, kept_stream, Part, Session, is_of, session_of}
use Rattle.radio_laws.proofs.Words.{HasRisingStarts, no_data, data_at, kept_data, kept_end, place_in, IsKept, portion_at, place_after, heard_on, part_after, Portion, MountPart, Replied, Event, Draw, Reply, Drawn, Stray}
use Rattle.radio_laws.proofs.Words.{heard_at, silence_at, silence_of, World, Nothing, Advance, part_at, Outcome, hands_out, says, IsSound, StandsFor, outcome, reply_to, world_after, heard_cases, settings_stay}
use Rattle.radio_laws.proofs.Words.{PartStands, IsServersStep, seat_if, is_at, seat_at, IsPartOf, part_with_place}
use Rattle.radio_laws.proofs.Locality.PartLemmas.{sits_there, parts_draw}

-- if nothing was delivered at a mount, nothing is drawn there
nothing_left : (place : ℕ) → drop {A = ℕ} place [] ≡ []
nothing_left zero = refl
nothing_left (suc n) = refl

nothing_taken : (room : ℕ) → take {A = ℕ} room [] ≡ []
nothing_taken zero = refl
nothing_taken (suc n) = refl

no_data_at : (place room : ℕ) → data_at no_data place room ≡ []
no_data_at place room = ap (take room) (nothing_left place) ∙ nothing_taken room

module _ (core w : World) (for : StandsFor core w) where
  abbrev queue : ℕ
  queue = w.station.settings.limits.queue_size

  abbrev s : IsSound w
  s = for.sound

  abbrev pub place_of : Seat → ℕ
  place_of seat = seat.place

  -- what the state has at the mount, with all listeners
  abbrev pub whole : MountPart → Part
  whole p = part_at w p.mount

  pub of_whole : (p : MountPart) → IsPartOf w (whole p)
  of_whole p = record { live = refl; seats = λ id. refl }

  -- the part has what the state has after an event, if it has what the whole part has then
  pub has_then : (event : Event) (p later : MountPart) (q : Part) → later.mount ≡ q.mount → IsPartOf (world_after w event) q
      → later.session ≡ option_map (kept_session queue) q.session
      → ((id : ℕ) → place_in (find (is_attached id) later.attachments) ≡ option_map place_of (seat_at q.mount q.listeners id))
      → AreInOrder later.attachments → PartStands (world_after w event) later
  unfolding world_after
  has_then event p later q name of live attached order = record {
    session = live ∙ ap (option_map (kept_session queue)) (sym of.live)
        ∙ ap (λ (m : List ℕ). option_map (kept_session queue) (session_of (world_after w event).station.live m)) (sym name)
        ∙ ap (λ (x : Settings). option_map (kept_session x.limits.queue_size) (session_of (world_after w event).station.live later.mount))
        (sym (settings_stay w s.by_number event));
    attached = λ id. attached id ∙ ap (option_map place_of) (of.seats id)
        ∙ ap (λ (m : List ℕ). option_map place_of (seat_at m (world_after w event).seats id)) (sym name);
    once = order;
  }

  module _ (p : MountPart) (stands : PartStands w p) where
    -- a draw
    module _ (id room : ℕ) (row : Attachment) (found : find (is_attached id) p.attachments ≡ Some row) (seat : Seat)
        (has : seat_at p.mount w.seats id ≡ Some seat) where
      same_place : row.place ≡ seat.place
      same_place =
          let both : Some row.place ≡ Some seat.place = sym (ap place_in found) ∙ stands.attached id ∙ ap (option_map place_of) has in
          cc

      sits : (seat_of w.seats id ≡ Some seat) × (is_at p.mount seat ≡ true)
      sits = sits_there p.mount w.seats id seat has

      abbrev heard_here : Option Session
      heard_here = option_or (session_of w.station.live p.mount) (silence_of w.station p.mount)

      drawn : outcome w (Draw id room) ≡ hands_out id seat room heard_here
      drawn = (parts_draw w s (whole p) (of_whole p) id room seat has).by_part
          ∙ ap (λ (found : Option Seat). option_map_or (λ his. hands_out id his room heard_here) found (says Stray Nothing)) sits.0

      -- the part's portion is what the state hands out
      abbrev Portions : Type 0
      Portions = (outcome w (Draw id room) ≡ says (Drawn (portion_at p.session row.place room).pieces (portion_at p.session row.place room).title)
          (Advance id (place_after p.session row.place room)))

      by_portion : (pieces : List ℕ) (title : Option (List ℕ)) → outcome w (Draw id room) ≡ says (Drawn pieces title) (Advance id (seat.place + length pieces))
          → portion_at p.session row.place room ≡ record { pieces = pieces; title = title } → Portions
      by_portion pieces title is portion =
          is ∙ sym (ap (λ (x : Portion). says (Drawn x.pieces x.title) (Advance id (row.place + length x.pieces))) portion
          ∙ ap (λ (n : ℕ). says (Drawn pieces title) (Advance id (n + length pieces))) same_place)

      of_stream : (session : Session) → session_of w.station.live p.mount ≡ Some session → Portions
      of_stream session live =
          let name = (bytes_eq-Decides seat.mount p.mount).0 sits.1 in
          let kept = for.kept id seat session sits.0 (ap (session_of w.station.live) name ∙ live) in
          let its : p.session ≡ Some (kept_session queue session) = stands.session ∙ ap (option_map (kept_session queue)) live in
          by_portion (data_at session.stream seat.place room) session.title
          (drawn ∙ ap (λ (found : Option Session). hands_out id seat room (option_or found (silence_of w.station p.mount))) live)
          (ap (λ (found : Option Session). portion_at found row.place room) its
          ∙ ap (λ (n : ℕ). portion_at (Some (kept_session queue session)) n room) same_place
          ∙ ap (λ (pieces : List ℕ). record { pieces = pieces; title = session.title }) (kept_data queue session.stream seat.place room kept))

      of_silence : session_of w.station.live p.mount ≡ None → Portions
      of_silence none =
          let seated = s.seated id seat sits.0 in
          let name = (bytes_eq-Decides seat.mount p.mount).0 sits.1 in
          let heard : heard_at w.station p.mount ≡ Some seated.session = ap (heard_at w.station) (sym name) ∙ seated.is_heard in
          let silent : silence_at w.station p.mount ≡ seated.session = heard_cases w.station p.mount seated.session heard
          (λ live. let clash : Some seated.session ≡ None = sym live ∙ none in cc) (λ other is. is) in
          let nothing = no_data_at seat.place room in
          by_portion [] None
          (drawn ∙ ap (hands_out id seat room) (heard ∙ ap (λ (x : Session). Some x) (sym silent))
          ∙ ap (λ (bytes : List ℕ). says (Drawn bytes None) (Advance id (seat.place + length bytes))) nothing)
          (ap (λ (found : Option Session). portion_at found row.place room) (stands.session ∙ ap (option_map (kept_session queue)) none))

      portions : Portions
      portions = by_session (session_of w.station.live p.mount) refl where
        by_session : (found : Option Session) → session_of w.station.live p.mount ≡ found → Portions
        by_session (Some session) live = of_stream session live
        by_session None none = of_silence none

      abbrev after : ℕ
      after = place_after p.session row.place room

      abbrev further : Attachment → Attachment
      further x = heard_on p.session room x

      attached_then : (other : ℕ) → place_in (find (is_attached other) (update_first (is_attached id) further p.attachments))
          ≡ option_map place_of (seat_at p.mount (with_place w.seats id after) other)
      attached_then other = by_number (id == other) refl where
        apart : (id == other) ≡ false → (x : Attachment) → is_attached id x ≡ true → (is_attached other x ≡ false) × (is_attached other (further x) ≡ false)
        apart e x is =
            let its : x.id ≡ id = eqb-true x.id id is in
            let not_his : (x.id == other) ≡ false = ap (λ (n : ℕ). n == other) its ∙ e in
            (not_his, not_his)

        by_number : (b : Bool) → (id == other) ≡ b → place_in (find (is_attached other) (update_first (is_attached id) further p.attachments))
            ≡ option_map place_of (seat_at p.mount (with_place w.seats id after) other)
        by_number true e =
            subst (λ (n : ℕ). place_in (find (is_attached n) (update_first (is_attached id) further p.attachments))
            ≡ option_map place_of (seat_at p.mount (with_place w.seats id after) n)) (eqb-true id other e)
            (ap place_in (find_same (is_attached id) further (λ x. refl) p.attachments row found)
            ∙ sym (ap (λ (found : Option Seat). option_map place_of (seat_if (is_at p.mount) found)) (has_heard w.seats id after seat sits.0)
            ∙ ap (λ (b : Bool). option_map place_of (if b then Some (record seat { place = after }) else None)) sits.1))
        by_number false e =
            ap place_in (find_apart (is_attached other) (is_attached id) further (apart e) p.attachments) ∙ stands.attached other
            ∙ sym (ap (λ (found : Option Listener). option_map place_of (seat_if (is_at p.mount) (seat_in found))) (beside_moved w.seats id other e after))

      pub draws_as_the_server : (reply : Reply) → Replied (Drawn (portion_at p.session row.place room).pieces (portion_at p.session row.place room).title) ≡ Replied reply
          → IsServersStep w p (Draw id room) reply
      unfolding reply_to
      draws_as_the_server reply is =
          let change = ap (λ (o : Outcome). o.change) portions in
          let step = (parts_draw w s (whole p) (of_whole p) id room seat has).step after
          (sym (ap (λ (o : Outcome). o.change) (parts_draw w s (whole p) (of_whole p) id room seat has).by_part) ∙ change) in
          let its : Drawn (portion_at p.session row.place room).pieces (portion_at p.session row.place room).title ≡ reply = cc in
          record {
            can_draw = λ other there. kept_for other (sym found ∙ there);
            replied = sym its ∙ sym (ap (λ (o : Outcome). o.reply) portions);
            here = has_then (Draw id room) p (part_after queue w.station.time p (Draw id room)) (part_with_place (whole p) id after) refl step.here stands.session
                attached_then (in_order_updated further (λ x. refl) (is_attached id) p.attachments stands.once);
            there = step.there;
          } where
            kept_by : (found : Option Session) → session_of w.station.live p.mount ≡ found → IsKept p.session row.place
            kept_by None live = subst (λ (x : Option Session). IsKept x row.place) (sym (stands.session ∙ ap (option_map (kept_session queue)) live)) tt
            kept_by (Some session) live =
                let name = (bytes_eq-Decides seat.mount p.mount).0 sits.1 in
                let kept = for.kept id seat session sits.0 (ap (session_of w.station.live) name ∙ live) in
                let rises = found_has (is_of p.mount) HasRisingStarts w.station.live session for.rise live in
                subst (λ (x : Option Session). IsKept x row.place) (sym (stands.session ∙ ap (option_map (kept_session queue)) live))
                (subst (λ (n : ℕ). first_start n (kept_stream queue session.stream).starts ≤ row.place) (sym (kept_end queue session.stream rises))
                (subst (λ (n : ℕ). kept_from queue session.stream ≤ n) (sym same_place) kept))

            kept_for : (other : Attachment) → Some row ≡ Some other → IsKept p.session other.place
            kept_for other same =
                let one : row ≡ other = cc in
                subst (λ (x : Attachment). IsKept p.session x.place) one (kept_by (session_of w.station.live p.mount) refl)
