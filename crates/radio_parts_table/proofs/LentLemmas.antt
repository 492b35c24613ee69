-- a part has taken the place of another: what is seen of the listeners then
use Rattle.std.proofs.Common.{◌≡◌, Bool, true, false, ℕ, ◌==◌, Option, Some, None, List, [], ◌∷◌, not, refl, ap, sym, subst, ◌∙◌}
use Rattle.radio_parts_table.proofs.Words.{◌||◌, filter, find, if◌then◌else◌, is_some, map, unwrap_or, option_map, option_map_or, bytes_eq, eqb-true, bytes_eq-Decides, Each, by_name, Lagged, Listener, Seat, Seating}
use Rattle.radio_parts_table.proofs.Words.{Sits, Finished, listener_of, lost_by, seat_held, seat_in, seat_of, sits_at, AreByNumber, Attachment, is_attached, Heard, heard, heard_by, heard_seating, AllAgree, found_in}
use Rattle.radio_parts_table.proofs.Words.{places_in, is_among, place_in, IsExchanged, ByMount, has_part, MountAttachments, MountPart, AsBefore, HeardTo, LaggedOut, HaveTheirPlaces, IsLent, IsSeenAfter, ended_if_lost}
use Rattle.radio_parts_table.proofs.FitsChanges.{each_found, seat_left}
use Rattle.radio_parts_table.proofs.HeardReads.{heard_seat, seat_heard}

-- those of whom it holds, among the attachments
module _ (p : ℕ → Bool) (n : ℕ) where
  abbrev kept : List Attachment → List Attachment
  kept rows = filter (λ (row : Attachment). not (not (p row.id))) rows

  or_true : (a b : Bool) → b ≡ true → (a || b) ≡ true
  or_true true b e = refl
  or_true false b e = e

  passes_at : (row : Attachment) (rows : List Attachment) (b : Bool) → p row.id ≡ b → (is_among (kept rows) n ≡ true → p n ≡ true)
      → is_among (if not (not b) then row ∷ kept rows else kept rows) n ≡ true → p n ≡ true
  passes_at row rows true e later among = by_test (n == row.id) refl among where
    by_test : (c : Bool) → (n == row.id) ≡ c → (c || is_among (kept rows) n) ≡ true → p n ≡ true
    by_test true is h = ap p (eqb-true n row.id is) ∙ e
    by_test false is h = later h
  passes_at row rows false e later among = later among

  pub among_passes : (rows : List Attachment) → is_among (kept rows) n ≡ true → p n ≡ true
  among_passes [] among = cc
  among_passes (row ∷ rows) among = passes_at row rows (p row.id) refl (among_passes rows) among

  kept_at : (row : Attachment) (rows : List Attachment) (b c : Bool) → p row.id ≡ b → (n == row.id) ≡ c → p n ≡ true
      → (is_among rows n ≡ true → is_among (kept rows) n ≡ true) → (c || is_among rows n) ≡ true
      → is_among (if not (not b) then row ∷ kept rows else kept rows) n ≡ true
  kept_at row rows true true e is passes later among = rw is refl
  kept_at row rows true false e is passes later among = or_true (n == row.id) (is_among (kept rows) n) (later among)
  kept_at row rows false true e is passes later among = let no : p n ≡ false = ap p (eqb-true n row.id is) ∙ e in cc
  kept_at row rows false false e is passes later among = later among

  pub among_kept : (rows : List Attachment) → p n ≡ true → is_among rows n ≡ true → is_among (kept rows) n ≡ true
  among_kept [] passes among = cc
  among_kept (row ∷ rows) passes among = kept_at row rows (p row.id) (n == row.id) refl refl passes (among_kept rows passes) among

-- each at the mount is at the place of its attachment
module _ (h : Heard) (part : MountPart) (there : (id : ℕ) → h part.mount id ≡ place_in (find (is_attached id) part.attachments)) where
  pub have_places : (seats : List Listener) → HaveTheirPlaces part (heard h seats)
  have_places seats id place seat has at found = by_seat (seat_of seats id) (sym (seat_heard h seats id) ∙ has) where
    by_seat : (held : Option Seat) → option_map (heard_seat h id) held ≡ Some seat → seat.place ≡ place
    by_seat None e = cc
    by_seat (Some other) e =
        let is : heard_seat h id other ≡ seat = cc in
        let mount : other.mount ≡ part.mount = ap (λ (s : Seat). s.mount) is ∙ at in
        sym (ap (λ (s : Seat). s.place) is)
        ∙ ap (λ (at_place : Option ℕ). unwrap_or at_place other.place) (ap (λ m. h m id) mount ∙ there id ∙ found)

module _ (part there : MountPart) (before after : ByMount) (x : IsExchanged (record part { lagged = [] }) there before after)
    (seats : List Listener) (rising : AreByNumber seats) where
  abbrev lost : List Attachment
  lost = kept (λ n. sits_at seats n part.mount) 0 part.lagged

  abbrev pub later : List Listener
  later = map (ended_if_lost (is_among lost) Lagged) seats

  abbrev f : Heard
  f = places_in before.attached

  abbrev g : Heard
  g = places_in after.attached

  now_there : (id : ℕ) → g part.mount id ≡ place_in (find (is_attached id) part.attachments)
  now_there id = ap (λ (found : Option MountAttachments). place_in (found_in id found)) x.attached

  was_there : (id : ℕ) → f there.mount id ≡ place_in (find (is_attached id) there.attachments)
  was_there id = ap (λ m. f m id) x.mount ∙ ap (λ (found : Option MountAttachments). place_in (found_in id found)) x.was_attached

  elsewhere : (m : List ℕ) (id : ℕ) → bytes_eq part.mount m ≡ false → g m id ≡ f m id
  elsewhere m id apart = ap (λ (found : Option MountAttachments). place_in (found_in id found)) (x.elsewhere m apart)

  here : (m : List ℕ) → part.mount ≡ m → bytes_eq part.mount m ≡ true
  here m is = (bytes_eq-Decides part.mount m).1 is

  seen_by : (n : ℕ) (seating : Seating) (b : Bool) → seat_of seats n ≡ seat_held seating → is_among lost n ≡ b
      → IsSeenAfter part.mount (record { id = n; seating = heard_seating f n seating })
      (heard_by g (if b then record { id = n; seating = lost_by Lagged seating } else record { id = n; seating = seating }))
  seen_by n (Sits seat) true has among =
      let sits : sits_at seats n part.mount ≡ true = among_passes (λ k. sits_at seats k part.mount) n part.lagged among in
      let at : bytes_eq seat.mount part.mount ≡ true =
      sym (ap (λ (found : Option Seat). option_map_or (λ (s : Seat). bytes_eq s.mount part.mount) found false) has) ∙ sits in
      LaggedOut refl (here seat.mount (sym ((bytes_eq-Decides seat.mount part.mount).0 at)))
  seen_by n (Sits seat) false has among = by_name part.mount seat.mount
      (λ is. HeardTo (unwrap_or (g seat.mount n) seat.place) refl (here seat.mount is))
      (λ apart. AsBefore (ap (λ (found : Option ℕ). record { id = n; seating = Sits (record seat { place = unwrap_or found seat.place }) })
      (sym (elsewhere seat.mount n apart))))
  seen_by n (Finished rule last) true has among = AsBefore refl
  seen_by n (Finished rule last) false has among = AsBefore refl

  all_seen : (rest : List Listener) → Each (λ (l : Listener). listener_of seats l.id ≡ Some l) rest
      → AllAgree (IsSeenAfter part.mount) (heard f rest) (heard g (map (ended_if_lost (is_among lost) Lagged) rest))
  all_seen [] all = tt
  all_seen (l ∷ rest) all = (seen_by l.id l.seating (is_among lost l.id) (ap seat_in all.0) refl, all_seen rest all.1)

  sits_heard : (id : ℕ) → sits_at (heard g later) id part.mount ≡ sits_at later id part.mount
  sits_heard id =
      ap (λ (found : Option Seat). option_map_or (λ (s : Seat). bytes_eq s.mount part.mount) found false) (seat_heard g later id) ∙ by_seat (seat_of later id)
    where
      by_seat : (found : Option Seat) → option_map_or (λ (s : Seat). bytes_eq s.mount part.mount) (option_map (heard_seat g id) found) false
          ≡ option_map_or (λ (s : Seat). bytes_eq s.mount part.mount) found false
      by_seat None = refl
      by_seat (Some seat) = refl

  lost_there : (id : ℕ) → is_among part.lagged id ≡ true → sits_at (heard g later) id part.mount ≡ false
  lost_there id among =
      sits_heard id ∙ ap (λ (found : Option Seat). option_map_or (λ (s : Seat). bytes_eq s.mount part.mount) found false)
      (seat_left f g part.mount (is_among lost) Lagged seats id) ∙ by_loss (is_among lost id) refl
    where
      by_sitting : (b : Bool) → sits_at seats id part.mount ≡ b → is_among lost id ≡ false → sits_at seats id part.mount ≡ false
      by_sitting false e none = e
      by_sitting true e none =
          let some : is_among lost id ≡ true = among_kept (λ k. sits_at seats k part.mount) id part.lagged e among in cc

      by_loss : (b : Bool) → is_among lost id ≡ b
          → option_map_or (λ (s : Seat). bytes_eq s.mount part.mount) (if b then None else seat_of seats id) false ≡ false
      by_loss true e = refl
      by_loss false e = by_sitting (sits_at seats id part.mount) refl e

  -- each part is still there
  pub has_part_still : (m : List ℕ) → has_part before.attached m ≡ true → has_part after.attached m ≡ true
  has_part_still m has = by_name part.mount m
      (λ is. subst (λ (k : List ℕ). has_part after.attached k ≡ true) is (ap (λ (found : Option MountAttachments). is_some found) x.attached))
      (λ apart. ap (λ (found : Option MountAttachments). is_some found) (x.elsewhere m apart) ∙ has)

  pub is_lent : (prepared : List (List ℕ)) → IsLent part there (record { prepared = prepared; seats = heard f seats; live = before.live })
      (record { prepared = prepared; seats = heard g later; live = after.live })
  is_lent prepared = record {
    prepared = refl;
    sessions = x.sessions;
    session = x.session;
    listeners = all_seen seats (each_found seats rising);
    places = have_places g part now_there later;
    lost = lost_there;
    mount = x.mount;
    was_live = x.was_live;
    had_places = have_places f there was_there seats;
  }
