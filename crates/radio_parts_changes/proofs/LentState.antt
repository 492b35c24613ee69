-- what holds of the state still holds once a part is lent to it
use Rattle.std.proofs.Common.{◌≡◌, Bool, true, false, ℕ, suc, ◌≤◌, ◌==◌, min, Option, Some, None, List, [], ◌∷◌, length, Result, Ok, Err, IfOk, OnErr, refl, ap, sym, subst, ◌∙◌, arith}
use Rattle.radio_parts_changes.proofs.Words.{is_some, map, if◌then◌else◌, option_map_or, bytes_eq, bytes_eq-Decides, Each, Each_each, Settings, Listener, is_prepared, Listening, client_due, live_mount, AreLive, Registry}
use Rattle.radio_parts_changes.proofs.Words.{station_state, World, world, LiveMount, Comes, Stays, first_true, second_true, IsInPlace, last_moment, listener_due, session_due, Session, session_of, due_by_last, heard_due}
use Rattle.radio_parts_changes.proofs.Words.{lost_due, Lagged, IsDueFrom}
use Rattle.std.proofs.lemmas.Bool.{eqb-true}
use Rattle.radio_parts_table.specs.Lent.{AsBefore, HeardTo, LaggedOut, IsLent, IsSeenAfter}
use Rattle.radio_parts_table.specs.Agree.{AllAgree}
use Rattle.radio_parts_mount.specs.declared.part.MountPart.{MountPart}
use Rattle.radio_parts_changes.specs.Lent.{part_due, IsLentTo}
use Rattle.radio_parts_changes.proofs.DueLemmas.{due_earlier}
use Rattle.radio_parts_changes.proofs.PreparedSeats.{AllPrepared}

module _ (its : Option Session) where
  same_mount : (a b : Session) → IsInPlace its a b → a.mount ≡ b.mount
  same_mount a b (Stays same) = ap (λ (s : Session). s.mount) same
  same_mount a b (Comes its_own of) = sym ((bytes_eq-Decides b.mount a.mount).0 (first_true (bytes_eq b.mount a.mount) (b.number == a.number) of))

  same_number : (a b : Session) → IsInPlace its a b → a.number ≡ b.number
  same_number a b (Stays same) = ap (λ (s : Session). s.number) same
  same_number a b (Comes its_own of) = sym (eqb-true b.number a.number (second_true (bytes_eq b.mount a.mount) (b.number == a.number) of))

  pub live_alike : (before after : List Session) → AllAgree (IsInPlace its) before after → map live_mount after ≡ map live_mount before
  live_alike [] [] all = refl
  live_alike [] (b ∷ after) all = absurd all
  live_alike (a ∷ before) [] all = absurd all
  live_alike (a ∷ before) (b ∷ after) all =
      ap (λ (m : List ℕ). record { mount = m; number = b.number } ∷ map live_mount after) (sym (same_mount a b all.0))
      ∙ ap (λ (n : ℕ). record { mount = a.mount; number = n } ∷ map live_mount after) (sym (same_number a b all.0))
      ∙ ap (λ (rows : List LiveMount). live_mount a ∷ rows) (live_alike before after all.1)

  abbrev is_live : List ℕ → List Session → Bool
  is_live mount live = is_some (session_of live mount)

  both_live : (mount : List ℕ) (a b : Session) (before after : List Session) (c : Bool) → is_live mount after ≡ is_live mount before
      → is_some (if c then Some b else session_of after mount) ≡ is_some (if c then Some a else session_of before mount)
  both_live mount a b before after true later = refl
  both_live mount a b before after false later = later

  pub lives_still : (mount : List ℕ) (before after : List Session) → AllAgree (IsInPlace its) before after → is_live mount after ≡ is_live mount before
  lives_still mount [] [] all = refl
  lives_still mount [] (b ∷ after) all = absurd all
  lives_still mount (a ∷ before) [] all = absurd all
  lives_still mount (a ∷ before) (b ∷ after) all =
      ap (λ (m : List ℕ). is_some (if bytes_eq m mount then Some b else session_of after mount)) (sym (same_mount a b all.0))
      ∙ both_live mount a b before after (bytes_eq a.mount mount) (lives_still mount before after all.1)

  module _ (seconds moment : ℕ) (first : moment ≤ option_map_or (session_due seconds) its last_moment) where
    due_at_once : (a b : Session) → IsInPlace its a b → moment ≤ session_due seconds a → moment ≤ session_due seconds b
    due_at_once a b (Stays same) due = subst (λ (s : Session). moment ≤ session_due seconds s) same due
    due_at_once a b (Comes its_own of) due = subst (λ (found : Option Session). moment ≤ option_map_or (session_due seconds) found last_moment) its_own first

    pub sessions_due : (before after : List Session) → AllAgree (IsInPlace its) before after → Each (λ session. moment ≤ session_due seconds session) before
        → Each (λ session. moment ≤ session_due seconds session) after
    sessions_due [] [] all due = tt
    sessions_due [] (b ∷ after) all due = absurd all
    sessions_due (a ∷ before) [] all due = absurd all
    sessions_due (a ∷ before) (b ∷ after) all due = (due_at_once a b all.0 due.0, sessions_due before after all.1 due.1)

module _ (mount : List ℕ) where
  pub as_many_seen : (before after : List Listener) → AllAgree (IsSeenAfter mount) before after → length after ≡ length before
  as_many_seen [] [] all = refl
  as_many_seen [] (b ∷ after) all = absurd all
  as_many_seen (a ∷ before) [] all = absurd all
  as_many_seen (a ∷ before) (b ∷ after) all = ap (λ n. suc n) (as_many_seen before after all.1)

  module _ (settings : Settings) (moment : ℕ) (last : moment ≤ last_moment) where
    seen_due : (a b : Listener) → IsSeenAfter mount a b → moment ≤ listener_due settings a → moment ≤ listener_due settings b
    seen_due a b (AsBefore same) due = subst (λ (l : Listener). moment ≤ listener_due settings l) same due
    seen_due a b (HeardTo place is at) due =
        subst (λ (l : Listener). moment ≤ listener_due settings l) (sym is) (heard_due moment last settings place a.id a.seating due)
    seen_due a b (LaggedOut is at) due =
        subst (λ (l : Listener). moment ≤ listener_due settings l) (sym is) (lost_due moment last settings Lagged a.id a.seating due)

    pub listeners_due : (before after : List Listener) → AllAgree (IsSeenAfter mount) before after
        → Each (λ listener. moment ≤ listener_due settings listener) before → Each (λ listener. moment ≤ listener_due settings listener) after
    listeners_due [] [] all due = tt
    listeners_due [] (b ∷ after) all due = absurd all
    listeners_due (a ∷ before) [] all due = absurd all
    listeners_due (a ∷ before) (b ∷ after) all due = (seen_due a b all.0 due.0, listeners_due before after all.1 due.1)

-- mounts are prepared as before
pub lent_prepared : (part there : MountPart) (settings : Settings) (before after : Listening) → IsLent part there before after → AllPrepared settings before
    → AllPrepared settings after
lent_prepared part there settings before after lent are = (
  record {
    each = λ mount lives.
        ap (λ names. is_prepared names mount) lent.prepared
        ∙ are.0.each mount (sym (lives_still part.session mount before.live after.live lent.sessions) ∙ lives);
  },
  record {
    each = λ some mount on.
        ap (λ names. is_prepared names mount) lent.prepared
        ∙ are.1.each (let many = as_many_seen part.mount before.seats after.seats lent.listeners in omega (arith, some, many)) mount on;
  },
)

pub lent_live : (part there : MountPart) (rows : List LiveMount) (before after : Listening) → IsLent part there before after → AreLive rows before.live
    → AreLive rows after.live
lent_live part there rows before after lent are = are ∙ sym (live_alike part.session before.live after.live lent.sessions)

-- and so is the state
pub lent_state : (part there : MountPart) (registry : Registry) (before after : Listening) → IsLent part there before after
    → IsLentTo part there (world (station_state registry before.live) before.seats) (world (station_state registry after.live) after.seats)
lent_state part there registry before after lent = record {
  station = refl;
  sessions = lent.sessions;
  session = lent.session;
  listeners = lent.listeners;
  places = lent.places;
  lost = lent.lost;
  mount = lent.mount;
  was_live = lent.was_live;
  had_places = lent.had_places;
}

-- nothing is due before, but for the session that came
pub lent_due : (part there : MountPart) (moment : ℕ) (before after : World) → IsLentTo part there before after → IsDueFrom moment before
    → IsDueFrom (min moment (part_due before.station.settings.limits.source_timeout part)) after
lent_due part there moment before after lent due =
    let seconds = before.station.settings.limits.source_timeout in
    let earlier = min moment (part_due seconds part) in
    let last : earlier ≤ last_moment = let by = due_by part.session in omega (arith, by) in
    subst (λ station. IsDueFrom earlier (record { station = station; seats = after.seats })) (sym lent.station) (record {
      clients = Each_each (λ client. moment ≤ client_due before.station.settings.limits.header_timeout client)
          (λ client. earlier ≤ client_due before.station.settings.limits.header_timeout client) (λ client h. omega (arith, h)) before.station.clients due.clients;
      listeners = listeners_due part.mount before.station.settings earlier last before.seats after.seats lent.listeners
          (Each_each (λ listener. moment ≤ listener_due before.station.settings listener) (λ listener. earlier ≤ listener_due before.station.settings listener)
          (λ listener h. omega (arith, h)) before.seats due.listeners);
      sessions = sessions_due part.session seconds earlier (omega arith) before.station.live after.station.live lent.sessions
          (Each_each (λ session. moment ≤ session_due seconds session) (λ session. earlier ≤ session_due seconds session) (λ session h. omega (arith, h))
          before.station.live due.sessions);
    }) where
      due_by : (found : Option Session) → option_map_or (session_due before.station.settings.limits.source_timeout) found last_moment ≤ last_moment
      due_by None = omega arith
      due_by (Some session) = due_by_last before.station.settings.limits.source_timeout session.last_block

-- whether or not the part has taken its place
pub lent_holds : (part : MountPart) (settings : Settings) (rows : List LiveMount) (before after : Listening) (result : Result MountPart MountPart)
    → IfOk result (λ there. IsLent part there before after) → OnErr result (after ≡ before) → AllPrepared settings before → AreLive rows before.live
    → AllPrepared settings after × AreLive rows after.live
lent_holds part settings rows before after (Ok there) ok err prepared live =
    (lent_prepared part there settings before after ok prepared, lent_live part there rows before after ok live)
lent_holds part settings rows before after (Err back) ok err prepared live =
    (subst (AllPrepared settings) (sym err) prepared, subst (λ (l : Listening). AreLive rows l.live) (sym err) live)

pub lent_seen : (part : MountPart) (registry : Registry) (before after : Listening) (result : Result MountPart MountPart)
    → IfOk result (λ there. IsLent part there before after) → (w : World) → world (station_state registry before.live) before.seats ≡ w
    → IfOk result (λ there. IsLentTo part there w (world (station_state registry after.live) after.seats))
lent_seen part registry before after (Ok there) ok w is =
    subst (λ (v : World). IsLentTo part there v (world (station_state registry after.live) after.seats)) is (lent_state part there registry before after ok)
lent_seen part registry before after (Err back) ok w is = tt

pub not_lent : (registry : Registry) (before after : Listening) (result : Result MountPart MountPart) → OnErr result (after ≡ before)
    → (w : World) → world (station_state registry before.live) before.seats ≡ w → OnErr result (world (station_state registry after.live) after.seats ≡ w)
not_lent registry before after (Ok there) err w is = tt
not_lent registry before after (Err back) err w is = ap (λ (l : Listening). world (station_state registry l.live) l.seats) err ∙ is

pub lent_due_by : (part : MountPart) (moment : ℕ) (before after : World) (result : Result MountPart MountPart) → IfOk result (λ there. IsLentTo part there before after)
    → OnErr result (after ≡ before) → IsDueFrom moment before → IsDueFrom (min moment (part_due before.station.settings.limits.source_timeout part)) after
lent_due_by part moment before after (Ok there) ok err due = lent_due part there moment before after ok due
lent_due_by part moment before after (Err back) ok err due =
    let earlier = min moment (part_due before.station.settings.limits.source_timeout part) in
    subst (IsDueFrom earlier) (sym err) (due_earlier before moment earlier (omega arith) due)
