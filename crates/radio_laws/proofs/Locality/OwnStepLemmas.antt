-- a part's own step is the server's
use Rattle.std.proofs.Common.{◌≡◌, ◌+◌, Bool, true, false, ℕ, ◌==◌, Option, Some, None, List, length, refl, ap, sym, subst, ◌∙◌, arith, length-append}
use Rattle.radio_laws.proofs.Words.{find, filter, not, ◌&&◌, nat_lt, if◌then◌else◌, option_map, option_map_or, bytes_eq, eqb-true, found_has, Attachment, is_attached, lags, in_order_filtered, Verdict, Allow}
use Rattle.radio_laws.proofs.Words.{NumbersSpent, Lagged, verdict_in, Seat, with_ended, same_number, kept_session, longer_kept, Part, end_in, part_received, part_titled, Session, is_of, session_of, longer, with_title}
use Rattle.radio_laws.proofs.Words.{HasRisingStarts, WholeStream, end_of, lags_behind, kept_end, kept_more, rising_more, place_in, portion_at, is_fed_by, is_spent_with, part_answers, part_fed, part_lagged, Portion}
use Rattle.radio_laws.proofs.Words.{MountPart, Replied, Elsewhere, Event, Arrive, Source, Push, SourceEnd, Title, Listen, Draw, Command, Leave, RelayUp, RelayDown, Clock, Reply, Drawn, Noted, Deny, largest_number}
use Rattle.radio_laws.proofs.Words.{rows_to_push, World, standing_of, Feeds, Nothing, changed, part_at, Outcome, on_verdict, takes_in, IsSound, StandsFor, outcome, reply_to, world_after, Represents, IsLeftAlone}
use Rattle.radio_laws.proofs.Words.{PartStands, IsServersStep, OwnStepsAreTheServers, IsOwn, OwnStepsAreAnswered, seat_if, seat_at, IsPartOf, IsPartsStep}
use Rattle.radio_policy.specs.declared.judgement.Verdict.TheVariants.{Deny as Denied}
use Rattle.radio_parts_mount.specs.Parts.{with_session_changed}
use Rattle.radio_parts_mount.specs.declared.step.PartAnswer.{PartAnswer}
use Rattle.radio_parts_table.proofs.LaggingLemmas.{far, among_is, rest_is}
use Rattle.radio_laws.proofs.Locality.PartLemmas.{sits_there, those_kept, judged, noted_title, parts_receive, parts_titled}
use Rattle.radio_laws.proofs.Locality.OwnDrawLemmas.{of_whole as its_whole, has_then, draws_as_the_server}

module _ (core w : World) (for : StandsFor core w) where
  abbrev queue : ℕ
  queue = w.station.settings.limits.queue_size

  abbrev s : IsSound w
  s = for.sound

  abbrev place_of : Seat → ℕ
  place_of seat = seat.place

  abbrev whole : MountPart → Part
  whole p = part_at w p.mount

  abbrev of_whole : (p : MountPart) → IsPartOf w (whole p)
  of_whole p = its_whole core w for p

  module _ (p : MountPart) (stands : PartStands w p) where
    -- nothing has changed
    alone : IsLeftAlone (λ mount. bytes_eq mount p.mount) w w
    alone = record { sessions = λ mount beyond. refl; seats = λ id seat beyond. (λ e. e, λ e. e) }

    -- what the source of the mount's session sends
    module _ (session : Session) (live : session_of w.station.live p.mount ≡ Some session) where
      its : p.session ≡ Some (kept_session queue session)
      its = stands.session ∙ ap (option_map (kept_session queue)) live

      rises : HasRisingStarts session
      rises = found_has (is_of p.mount) HasRisingStarts w.station.live session for.rise live

      -- a title
      pub titles_as_the_server : (text : List ℕ) (reply : Reply) → Noted ≡ reply → is_fed_by session.number p ≡ true → IsServersStep w p (Title session.number text) reply
      unfolding reply_to
      titles_as_the_server text reply is fed = record {
        can_draw = tt;
        replied = sym is ∙ sym (ap (λ (o : Outcome). o.reply) (noted_title w s (whole p) (of_whole p) session live text));
        here = subst (PartStands (world_after w (Title session.number text)))
            (sym (ap (λ (b : Bool). if b then with_session_changed (with_title (Some text)) p else p) fed))
            (has_then core w for (Title session.number text) p (with_session_changed (with_title (Some text)) p) (part_titled text (whole p)) refl step.here
            (ap (option_map (with_title (Some text))) its
            ∙ sym (ap (λ (found : Option Session). option_map (kept_session queue) (option_map (with_title (Some text)) found)) live))
            stands.attached stands.once);
        there = step.there;
      } where
        step : IsPartsStep w (world_after w (Title session.number text)) (whole p) (part_titled text (whole p))
        step = parts_titled w s (whole p) (of_whole p) session live text

      -- a block
      module _ (block : List ℕ) where
        abbrev grown : Session
        grown = longer block w.station.time session

        longer_rises : HasRisingStarts grown
        longer_rises = rising_more session.stream.starts (end_of session.stream) (end_of grown.stream) (omega (arith, length-append session.stream.bytes block)) rises

        same_end : end_in p.session ≡ end_of session.stream
        same_end = ap end_in its ∙ kept_end queue session.stream rises

        fed_now : (part_fed queue w.station.time block p).session ≡ Some (kept_session queue grown)
        fed_now = ap (option_map (longer_kept queue block w.station.time)) its
            ∙ ap (λ (stream : WholeStream). Some (record grown { stream = stream })) (kept_more queue session.stream block rises)

        ends : end_in (part_fed queue w.station.time block p).session ≡ end_of grown.stream
        ends = ap end_in fed_now ∙ kept_end queue grown.stream (longer_rises)

        attached_later : (id : ℕ) → place_in (find (is_attached id) (filter (λ row. not (lags (end_of grown.stream) queue row)) p.attachments))
            ≡ option_map place_of (seat_at p.mount (with_ended w.seats (lags_behind p.mount (end_of grown.stream) queue) Lagged) id)
        attached_later id =
            ap place_in (rest_is (end_of grown.stream) queue id p.attachments stands.once)
            ∙ ap (λ (b : Bool). place_in (if b then None else find (is_attached id) p.attachments))
            (among_is (end_of grown.stream) queue id p.attachments stands.once)
            ∙ by_row (find (is_attached id) p.attachments) (seat_at p.mount w.seats id) refl (stands.attached id)
            ∙ sym (ap (option_map place_of) (those_kept p.mount (lags_behind p.mount (end_of grown.stream) queue) w.seats id)) where
              keeps_up : Seat → Bool
              keeps_up seat = not (lags_behind p.mount (end_of grown.stream) queue seat)

              by_row : (row : Option Attachment) (found : Option Seat) → seat_at p.mount w.seats id ≡ found → place_in row ≡ option_map place_of found
                  → place_in (if option_map_or (far (end_of grown.stream) queue) (place_in row) false then None else row)
                  ≡ option_map place_of (seat_if keeps_up found)
              by_row None None at same = refl
              by_row None (Some seat) at same = cc
              by_row (Some row) None at same = cc
              by_row (Some row) (Some seat) at same =
                  let places : row.place ≡ seat.place = cc in
                  let there = (sits_there p.mount w.seats id seat at).1 in
                  ap (λ (b : Bool). place_in (if b then None else Some row)) (ap (far (end_of grown.stream) queue) places)
                  ∙ by_test (far (end_of grown.stream) queue seat.place) (lags_behind p.mount (end_of grown.stream) queue seat)
                  (sym (ap (λ (b : Bool). b && far (end_of grown.stream) queue seat.place) there)) places where
                    by_test : (b c : Bool) → b ≡ c → row.place ≡ seat.place
                        → place_in (if b then None else Some row) ≡ option_map place_of (if not c then Some seat else None)
                    by_test true true e same = refl
                    by_test false false e same = ap (λ (n : ℕ). Some n) same
                    by_test true false e same = cc
                    by_test false true e same = cc

        -- the policy denies it exactly if the stream would have more bytes than can be counted
        verdict_is : (b : Bool) → is_spent_with block p ≡ b → verdict_in (rows_to_push w.station p.mount block) ≡ (if b then Denied NumbersSpent else Allow)
        verdict_is b e = ap (λ (x : Bool). if x then Denied NumbersSpent else Allow)
            (ap (λ (found : Option Session). nat_lt largest_number (end_in found + length block)) live
            ∙ sym (ap (λ (n : ℕ). nat_lt largest_number (n + length block)) same_end) ∙ e)

        -- it is denied
        pub denies_as_the_server : (reply : Reply) → Deny NumbersSpent ≡ reply → is_fed_by session.number p ≡ true → is_spent_with block p ≡ true
            → IsServersStep w p (Push session.number block) reply
        unfolding reply_to world_after
        denies_as_the_server reply is fed spent = record {
          can_draw = tt;
          replied = sym (ap (λ (o : Outcome). o.reply) denied ∙ is);
          here = subst (PartStands (changed w (outcome w (Push session.number block)).change))
              (sym (ap (λ (b : Bool). if b then (if is_spent_with block p then p else lagged) else p) fed ∙ ap (λ (b : Bool). if b then p else lagged) spent))
              (subst (λ (later : World). PartStands later p) (sym same) stands);
          there = subst (λ (later : World). IsLeftAlone (λ mount. bytes_eq mount p.mount) w later) (sym same) alone;
        } where
          lagged : MountPart
          lagged = part_lagged (end_in (part_fed queue w.station.time block p).session) queue (part_fed queue w.station.time block p)

          denied : outcome w (Push session.number block) ≡ on_verdict (Denied NumbersSpent) Nothing (takes_in p.mount block)
          denied = judged w s (whole p) (of_whole p) session live block
              ∙ ap (λ (verdict : Verdict). on_verdict verdict Nothing (takes_in p.mount block)) (verdict_is true spent)

          same : changed w (outcome w (Push session.number block)).change ≡ w
          same = ap (λ (o : Outcome). changed w o.change) denied

        -- it is taken in
        pub takes_as_the_server : (reply : Reply) → Noted ≡ reply → is_fed_by session.number p ≡ true → is_spent_with block p ≡ false
            → IsServersStep w p (Push session.number block) reply
        unfolding reply_to
        takes_as_the_server reply is fed room = record {
          can_draw = tt;
          replied = sym (noted ∙ is);
          here = subst (PartStands (world_after w (Push session.number block)))
              (sym (ap (λ (b : Bool). if b then (if is_spent_with block p then p else lagged) else p) fed ∙ ap (λ (b : Bool). if b then p else lagged) room))
              (has_then core w for (Push session.number block) p lagged (part_received queue w.station.time block (whole p)) refl step.here
              (fed_now ∙ sym (ap (λ (found : Option Session). option_map (kept_session queue) (option_map (longer block w.station.time) found)) live))
              (λ id. ap (λ (n : ℕ). place_in (find (is_attached id) (filter (λ row. not (lags n queue row)) p.attachments))) ends
              ∙ attached_later id
              ∙ sym (ap (λ (found : Option Session). option_map place_of (seat_at p.mount
              (with_ended w.seats (lags_behind p.mount (end_in (option_map (longer block w.station.time) found)) queue) Lagged) id)) live))
              (in_order_filtered _ p.attachments stands.once));
          there = step.there;
        } where
          lagged : MountPart
          lagged = part_lagged (end_in (part_fed queue w.station.time block p).session) queue (part_fed queue w.station.time block p)

          allowed : verdict_in (rows_to_push w.station p.mount block) ≡ Allow
          allowed = verdict_is false room

          noted : reply_to w (Push session.number block) ≡ Noted
          noted = ap (λ (o : Outcome). o.reply) (judged w s (whole p) (of_whole p) session live block
              ∙ ap (λ (verdict : Verdict). on_verdict verdict Nothing (takes_in p.mount block)) allowed)

          step : IsPartsStep w (world_after w (Push session.number block)) (whole p) (part_received queue w.station.time block (whole p))
          step = parts_receive w s (whole p) (of_whole p) session live block noted

  -- whatever the part answers by itself
  fed_session : (p : MountPart) → PartStands w p → (id : ℕ) → is_fed_by id p ≡ true
      → (session : Session) × (session_of w.station.live p.mount ≡ Some session) × (session.number ≡ id)
  fed_session p stands id fed = by_found (session_of w.station.live p.mount) refl (sym (ap fed_in stands.session) ∙ fed) where
    fed_in : Option Session → Bool
    fed_in found = option_map_or (λ (session : Session). session.number == id) found false

    by_found : (found : Option Session) → session_of w.station.live p.mount ≡ found → fed_in (option_map (kept_session queue) found) ≡ true
        → (session : Session) × (session_of w.station.live p.mount ≡ Some session) × (session.number ≡ id)
    by_found None none h = cc
    by_found (Some session) live h = (session, live, eqb-true session.number id h)

  own_step : (p : MountPart) → PartStands w p → (event : Event) (reply : Reply) → part_answers p event ≡ Replied reply → IsServersStep w p event reply
  own_step p stands (Arrive peer) reply is = cc
  own_step p stands (Source asked) reply is = cc
  own_step p stands (Push id block) reply is = by_source (is_fed_by id p) refl is where
    by_room : is_fed_by id p ≡ true → (b : Bool) → is_spent_with block p ≡ b → Replied (if b then Deny NumbersSpent else Noted) ≡ Replied reply
        → IsServersStep w p (Push id block) reply
    by_room fed true spent h =
        let its = fed_session p stands id fed in
        let one : Deny NumbersSpent ≡ reply = cc in
        subst (λ (n : ℕ). IsServersStep w p (Push n block) reply) its.2
        (denies_as_the_server p stands its.0 its.1 block reply one (ap (λ (n : ℕ). is_fed_by n p) its.2 ∙ fed) spent)
    by_room fed false room h =
        let its = fed_session p stands id fed in
        let one : Noted ≡ reply = cc in
        subst (λ (n : ℕ). IsServersStep w p (Push n block) reply) its.2
        (takes_as_the_server p stands its.0 its.1 block reply one (ap (λ (n : ℕ). is_fed_by n p) its.2 ∙ fed) room)

    by_source : (b : Bool) → is_fed_by id p ≡ b
        → (if b then Replied (if is_spent_with block p then Deny NumbersSpent else Noted) else Elsewhere (Push id block)) ≡ Replied reply
        → IsServersStep w p (Push id block) reply
    by_source true fed h = by_room fed (is_spent_with block p) refl h
    by_source false fed h = cc
  own_step p stands (SourceEnd id) reply is = cc
  own_step p stands (Title id text) reply is = by_source (is_fed_by id p) refl is where
    by_source : (b : Bool) → is_fed_by id p ≡ b → (if b then Replied Noted else Elsewhere (Title id text)) ≡ Replied reply
        → IsServersStep w p (Title id text) reply
    by_source true fed h =
        let its = fed_session p stands id fed in
        let one : Noted ≡ reply = cc in
        subst (λ (n : ℕ). IsServersStep w p (Title n text) reply) its.2
        (titles_as_the_server p stands its.0 its.1 text reply one (ap (λ (n : ℕ). is_fed_by n p) its.2 ∙ fed))
    by_source false fed h = cc
  own_step p stands (Listen asked) reply is = cc
  own_step p stands (Draw id room) reply is = by_row (find (is_attached id) p.attachments) refl is where
    answered : Option Attachment → PartAnswer
    answered found = option_map_or (λ (portion : Portion). Replied (Drawn portion.pieces portion.title))
        (option_map (λ (row : Attachment). portion_at p.session row.place room) found) (Elsewhere (Draw id room))

    by_seat : (row : Attachment) → find (is_attached id) p.attachments ≡ Some row → answered (Some row) ≡ Replied reply
        → (found : Option Seat) → seat_at p.mount w.seats id ≡ found → Some row.place ≡ option_map place_of found → IsServersStep w p (Draw id room) reply
    by_seat row e h None at places = cc
    by_seat row e h (Some seat) at places = draws_as_the_server core w for p stands id room row e seat at reply h

    by_row : (found : Option Attachment) → find (is_attached id) p.attachments ≡ found → answered found ≡ Replied reply → IsServersStep w p (Draw id room) reply
    by_row None e h = cc
    by_row (Some row) e h = by_seat row e h (seat_at p.mount w.seats id) refl (sym (ap place_in e) ∙ stands.attached id)
  own_step p stands (Command asked) reply is = cc
  own_step p stands (Leave id) reply is = cc
  own_step p stands (RelayUp mount shown) reply is = cc
  own_step p stands (RelayDown id) reply is = cc
  own_step p stands (Clock ms) reply is = cc

  -- and it does answer the source of the mount, and the listeners there
  feeds_here : (p : MountPart) → PartStands w p → (id : ℕ) → standing_of w id ≡ Feeds p.mount → is_fed_by id p ≡ true
  feeds_here p stands id feeds =
      let fed = s.feeds id p.mount feeds in
      ap (λ (found : Option Session). option_map_or (λ (session : Session). session.number == id) found false)
      (stands.session ∙ ap (option_map (kept_session queue)) fed.1)
      ∙ ap (λ (n : ℕ). n == id) fed.2 ∙ same_number id

  own_answer : (p : MountPart) → PartStands w p → (event : Event) → IsOwn w p event → (reply : Reply) × (part_answers p event ≡ Replied reply)
  own_answer p stands (Arrive peer) own = absurd own
  own_answer p stands (Source asked) own = absurd own
  own_answer p stands (Push id block) own = (
    (if is_spent_with block p then Deny NumbersSpent else Noted),
    ap (λ (b : Bool). if b then Replied (if is_spent_with block p then Deny NumbersSpent else Noted) else Elsewhere (Push id block)) (feeds_here p stands id own),
  )
  own_answer p stands (SourceEnd id) own = absurd own
  own_answer p stands (Title id text) own = (
    Noted,
    ap (λ (b : Bool). if b then Replied Noted else Elsewhere (Title id text)) (feeds_here p stands id own),
  )
  own_answer p stands (Listen asked) own = absurd own
  own_answer p stands (Draw id room) own = by_row (find (is_attached id) p.attachments) (stands.attached id ∙ ap (option_map place_of) own.1) where
    answered : Option Attachment → PartAnswer
    answered found = option_map_or (λ (portion : Portion). Replied (Drawn portion.pieces portion.title))
        (option_map (λ (row : Attachment). portion_at p.session row.place room) found) (Elsewhere (Draw id room))

    by_row : (found : Option Attachment) → place_in found ≡ Some (own.0).place → (reply : Reply) × (answered found ≡ Replied reply)
    by_row None e = cc
    by_row (Some row) e = (Drawn (portion_at p.session row.place room).pieces (portion_at p.session row.place room).title, refl)
  own_answer p stands (Command asked) own = absurd own
  own_answer p stands (Leave id) own = absurd own
  own_answer p stands (RelayUp mount shown) own = absurd own
  own_answer p stands (RelayDown id) own = absurd own
  own_answer p stands (Clock ms) own = absurd own

pub own_steps : (core w : World) → Represents core w → OwnStepsAreTheServers w
unfolding Represents
own_steps core w for p event reply stands is = own_step core w for p stands event reply is

pub own_answers : (core w : World) → Represents core w → OwnStepsAreAnswered w
unfolding Represents
own_answers core w for p event stands own = own_answer core w for p stands event own
