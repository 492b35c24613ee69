-- the law of commands
use Rattle.std.proofs.Common.{◌≡◌, ◌↔◌, ◌⊎◌, inl, inr, Bool, true, false, ℕ, Option, Some, None, List, refl, ap, sym, subst, ◌∙◌, arith, is_some, [], ◌∷◌}
use Rattle.radio_laws.proofs.Words.{◌||◌, not, bytes_eq, and_parts, bytes_eq-Decides, Allow, row, verdict_in, Credentials, Login, Settings, options_for, is_login_sent, is_admin_pair, MoveClients, KillClient, KillSource}
use Rattle.radio_laws.proofs.Words.{SetFallback, AddUser, DeleteUser, Event, Obey, Answered, answered, carried_along, changed, session_over, IsCommanded, opened_by, opens_as_source, is_live, is_listener_at, NoMount}
use Rattle.radio_laws.proofs.Words.{NoDestination, SameMount, NoClient, Killed, Seat, seat_in, seat_of, count_at, AreByNumber, by_number, Move, Ended, To, concerns, Faring, HasStayed, HasGone, HasLost, fares, counts_by}
use Rattle.radio_laws.proofs.Words.{sight_of, Fallback, set_for, Session, session_of, without_session, bytes_apart, is_over, beside_ended, on_air_there, on_air_beside, is_opened, may_act, may_add, may_delete, needs_hold}
use Rattle.radio_laws.proofs.Words.{shown_long, is_set, beside_set, FallsBack, ByTheSettings, ByACommand, IsSound, world_after, World, standing_of, is_another, his_seat, has_been_killed, sits_no_more, beside_him, live}
use Rattle.radio_laws.proofs.Words.{is_cut, named, title_live, is_answered, sound_after, MayGive, IsLive, HasTarget, AsTheAdmin, ItsTitle, ItsFallback, IsGivenByRight, OnlyWhoMayCommands, IsSourceKilled, HasDone}
use Rattle.radio_laws.proofs.Words.{mount_of, StaysBeside, CommandsAreKept, KilledHearNothing, UserList, with_user, without_user, has_users, has_user_at, with_user_at, without_user_at, Adds, Deletes, HasPassword}
use Rattle.radio_laws.proofs.Words.{IsNoUser}
use Rattle.radio_events.specs.declared.command.OpenedBy.TheVariants.{Source}
use Rattle.radio_fallback.proofs.MovedCounts.{moved_as_counted}
use Rattle.radio_events.specs.declared.command.Command.{Command as TheCommand}
use Rattle.radio_events.specs.declared.command.Command.TheVariants.{SetTitle}
use Rattle.radio_parts_station.specs.declared.standing.Standing.TheVariants.{Finished}
use Rattle.radio_laws.proofs.Denials.GrantedLemmas.{IsToldFor, ByShowing, ByDoing}
use Rattle.radio_laws.proofs.Listings.ToldTexts.{told_for}
use Rattle.radio_core.proofs.Clients.Obeyed.{turned}
use Rattle.radio_laws.proofs.Ends.GoneLemmas.{given_number, last_rises}
use Rattle.radio_laws.proofs.Commands.KilledLemmas.{IsOver, hears_no_more}
use Rattle.radio_laws.proofs.Commands.CommandSteps.{later_so, told_so, after}
use Rattle.radio_laws.proofs.Commands.UserChanges.{have_changed, password_set, user_gone, deleted_has_users, users_beside}

-- a login that was sent has its user and its password
pub record HasLogin (login : Login) (sent : Option Credentials) : Type 0 where
  pub pair : Credentials
  pub is_sent : sent ≡ Some pair
  pub user : pair.user ≡ login.username
  pub password : pair.password ≡ login.password

pub login_sent : (login : Login) (sent : Option Credentials) → is_login_sent login sent ≡ true → HasLogin login sent
login_sent login None e = cc
login_sent login (Some pair) e =
    let both = and_parts (bytes_eq login.username pair.user) (bytes_eq login.password pair.password) e in
    record {
      pair = pair;
      is_sent = refl;
      user = sym ((bytes_eq-Decides login.username pair.user).0 both.0);
      password = sym ((bytes_eq-Decides login.password pair.password).0 both.1);
    }

-- the source's pair, as the one that was sent
source_sent : (settings : Settings) (mount : List ℕ) (sent : Option Credentials) → opens_as_source settings (Source (Some mount)) sent ≡ true
    → is_login_sent (options_for settings mount).source sent ≡ true
source_sent settings mount None e = cc
source_sent settings mount (Some pair) e = e

-- if no row denies, the mount is live
may_end : (live sits : Bool) → verdict_in (row NoMount (not live) ∷ row NoClient (not sits) ∷ []) ≡ Allow → live ≡ true
may_end true sits e = refl
may_end false sits e = cc

may_go : (live there same : Bool) → verdict_in (row NoMount (not live) ∷ row NoDestination (not there) ∷ row SameMount same ∷ []) ≡ Allow
    → (live ≡ true) × (there ≡ true)
may_go true true same e = (refl, refl)
may_go true false same e = cc
may_go false there same e = cc

pub one_of : (a b : Bool) → (a || b) ≡ true → (a ≡ true) ⊎ (b ≡ true)
one_of true b e = inl refl
one_of false b e = inr e

-- so it has a session
is_found : (found : Option Session) → is_some found ≡ true → (session : Session) × (found ≡ Some session)
is_found None e = cc
is_found (Some session) e = (session, refl)

pub lives_by : (w : World) (mount : List ℕ) → is_live w.station mount ≡ true → IsLive w mount
lives_by w mount e = is_found (session_of w.station.live mount) e

module _ (w : World) (s : IsSound w) (event : Event) where
  -- what it needs was there
  was_there : (command : TheCommand) (c : IsCommanded w event command) → HasTarget w command
  was_there (MoveClients mount destination) c =
      let both = may_go (is_live w.station mount) (is_live w.station destination) (bytes_eq mount destination) (needs_hold w event c) in (
        lives_by w mount both.0,
        lives_by w destination both.1,
        λ same.
            let one : bytes_eq mount destination ≡ true = (bytes_eq-Decides mount destination).1 same in
            let two : bytes_eq mount destination ≡ false = is_another w s event mount destination c in
            cc,
      )
  was_there (KillClient mount listener) c =
      let his = his_seat w s event mount listener c in
      let live = lives_by w mount (may_end (is_live w.station mount) (is_listener_at w.seats mount listener) (needs_hold w event c)) in
      (live, his.0, his.1, his.2)
  was_there (KillSource mount) c = lives_by w mount (may_act (is_live w.station mount) (needs_hold w event c))
  was_there (SetTitle mount text) c = lives_by w mount (may_act (is_live w.station mount) (needs_hold w event c))
  was_there (SetFallback mount fallback) c = lives_by w mount (may_act (is_live w.station mount) (needs_hold w event c))
  was_there (AddUser mount user password) c = may_add (has_users w.station.lists mount) (needs_hold w event c)
  was_there (DeleteUser mount user) c = may_delete (has_users w.station.lists mount) (has_user_at w.station.lists mount user) (needs_hold w event c)

  -- so a client that sent a login that may give the command gave it by right
  given : (command : TheCommand) (c : IsCommanded w event command) (login : Login) (has : HasLogin login c.asked.pair) → MayGive w has.pair command
      → IsGivenByRight w event
  given command c login has may = record {
    asked = c.asked;
    is_event = c.is_event;
    command = command;
    is_asked = c.is_asked;
    pair = has.pair;
    sent = has.is_sent;
    may = may;
    there = was_there command c;
  }

  its_sources : (mount : List ℕ) (sent : Option Credentials) → opens_as_source w.station.settings (Source (Some mount)) sent ≡ true
      → HasLogin (options_for w.station.settings mount).source sent
  its_sources mount sent e = login_sent (options_for w.station.settings mount).source sent (source_sent w.station.settings mount sent e)

  by_source : (command : TheCommand) (c : IsCommanded w event command) → opens_as_source w.station.settings (opened_by command) c.asked.pair ≡ true
      → IsGivenByRight w event
  by_source (MoveClients mount destination) c e = cc
  by_source (KillClient mount listener) c e = cc
  by_source (KillSource mount) c e = cc
  by_source (AddUser mount user password) c e = cc
  by_source (DeleteUser mount user) c e = cc
  by_source (SetTitle mount text) c e =
      let has = its_sources mount c.asked.pair e in
      given (SetTitle mount text) c (options_for w.station.settings mount).source has (ItsTitle mount text (record { user = has.user; password = has.password }))
  by_source (SetFallback mount fallback) c e =
      let has = its_sources mount c.asked.pair e in
      given (SetFallback mount fallback) c (options_for w.station.settings mount).source has
      (ItsFallback mount fallback (record { user = has.user; password = has.password }))

  by_right : (command : TheCommand) (c : IsCommanded w event command) → (is_admin_pair w.station.settings c.asked.pair ≡ true)
      ⊎ (opens_as_source w.station.settings (opened_by command) c.asked.pair ≡ true) → IsGivenByRight w event
  by_right command c (inl admin) =
      let has = login_sent w.station.settings.access.admin c.asked.pair admin in
      given command c w.station.settings.access.admin has (AsTheAdmin command (record { user = has.user; password = has.password }))
  by_right command c (inr source) = by_source command c source

pub only_who_may : (w : World) → IsSound w → (event : Event) → OnlyWhoMayCommands w event
only_who_may w s event text d short = by_cause (told_for w event text d) where
  by_cause : IsToldFor w event text → IsGivenByRight w event
  by_cause (ByShowing asker peer its undecided what) = absurd (shown_long w event text what short)
  by_cause (ByDoing command c said) =
      by_right w s event command c (one_of (is_admin_pair w.station.settings c.asked.pair) (opens_as_source w.station.settings (opened_by command) c.asked.pair)
      (is_opened w event c))

module _ (w : World) (s : IsSound w) (event : Event) where
  is_live_still : (mount : List ℕ) (fallback : Option (List ℕ)) (later : World) → set_for later.station.fallbacks mount ≡ Some (record { mount = mount; fallback = fallback })
      → (next : List ℕ) → FallsBack later mount next ↔ (fallback ≡ Some next)
  is_live_still mount fallback later set next = (by_fall, λ e. ByACommand (record { mount = mount; fallback = fallback }) set e) where
    by_fall : FallsBack later mount next → fallback ≡ Some next
    by_fall (ByTheSettings goes none) = cc
    by_fall (ByACommand other found goes) =
        let both : Some (record { mount = mount; fallback = fallback }) ≡ Some other = sym set ∙ found in
        let one : record { mount = mount; fallback = fallback } ≡ other = cc in
        ap (λ (x : Fallback). x.fallback) one ∙ goes

  has_done : (command : TheCommand) (c : IsCommanded w event command) → HasDone w event command
  has_done (MoveClients mount destination) c = (
    (counts_by w (MoveClients mount destination)).moved,
    told_so w event c,
    moved_as_counted (sight_of w.station) mount destination (is_another w s event mount destination c) w.seats
        ∙ sym (ap (λ (x : World). count_at x.seats destination) (later_so w event c)),
  )
  has_done (KillClient mount listener) c = (
    told_so w event c,
    after w event c (λ later. standing_of later listener ≡ Finished Killed) (has_been_killed w s event mount listener c),
    after w event c (λ later. seat_of later.seats listener ≡ None) (sits_no_more w s event mount listener c),
  )
  has_done (KillSource mount) c = (told_so w event c, after w event c (λ later. IsSourceKilled w later mount) killed) where
    cut : Session
    cut = (live w s event mount c).0

    killed : IsSourceKilled w (changed w (Obey c.asked.id (KillSource mount))) mount
    killed = record {
      session = cut;
      was_live = (live w s event mount c).1;
      is_over = ap (λ (x : World). session_of x.station.live mount) (is_cut w s event mount c)
          ∙ ap (session_of (without_session w.station.live cut.mount)) (sym (named w s event mount c)) ∙ is_over w.station.live cut.mount;
      has_finished = ap (λ (x : World). standing_of x cut.number) (is_cut w s event mount c) ∙ (turned w s event mount c).his;
    }
  has_done (SetTitle mount text) c =
      let there = title_live w s event mount text c in (
        told_so w event c,
        there.0,
        there.1,
        after w event c (λ later. session_of later.station.live mount ≡ Some (record there.0 { title = Some text })) (on_air_there w mount text there.0 there.1),
      )
  has_done (SetFallback mount fallback) c = (
    told_so w event c,
    after w event c (λ later. (next : List ℕ) → FallsBack later mount next ↔ (fallback ≡ Some next))
        (is_live_still mount fallback (changed w (Obey c.asked.id (SetFallback mount fallback)))
        (is_set w.station.fallbacks mount mount fallback ((bytes_eq-Decides mount mount).1 refl))),
  )
  has_done (AddUser mount user password) c = (
    have_changed w s event c mount (Adds user password c) (with_user_at w.station.lists mount user password) (later_so w event c) (told_so w event c),
    after w event c (λ later. HasPassword later mount user password)
        (λ pair his. password_set w.station.lists mount user (may_add (has_users w.station.lists mount) (needs_hold w event c)) pair his password),
  )
  has_done (DeleteUser mount user) c = (
    have_changed w s event c mount (Deletes user c) (without_user_at w.station.lists mount user) (later_so w event c) (told_so w event c),
    after w event c (λ later. IsNoUser later mount user) (user_gone w.station.lists mount user (deleted_has_users w event c)),
  )

  -- a listener at another mount keeps its seat
  keeps_away : (v : World) (move : Move) (mount : List ℕ) → AreByNumber v.seats
      → ((seat : Seat) → concerns move seat.mount seat.home ≡ true → bytes_eq seat.mount mount ≡ true) → (id : ℕ) (seat : Seat)
      → seat_of v.seats id ≡ Some seat → bytes_eq mount seat.mount ≡ false → seat_of (carried_along v move).seats id ≡ Some seat
  keeps_away v move mount order theirs id seat has away = by_fare (fares (sight_of v.station) move v.seats order id) where
    not_concerned : (old : Seat) → seat_of v.seats id ≡ Some old → concerns move old.mount old.home ≡ true → ⊥
    not_concerned old had concerned =
        let both : Some seat ≡ Some old = sym has ∙ had in
        let one : seat ≡ old = cc in
        let there : bytes_eq seat.mount mount ≡ true = ap (λ (x : Seat). bytes_eq x.mount mount) one ∙ theirs old concerned in
        let back : bytes_eq seat.mount mount ≡ false = bytes_apart mount seat.mount away in
        cc

    by_fare : Faring (sight_of v.station) move v.seats id → seat_of (carried_along v move).seats id ≡ Some seat
    by_fare (HasStayed same turn) = ap seat_in same ∙ has
    by_fare (HasGone old to turn had concerned fits now) = absurd (not_concerned old had concerned)
    by_fare (HasLost old rule turn had concerned now) = absurd (not_concerned old had concerned)

  stays_beside : (command : TheCommand) (c : IsCommanded w event command) → StaysBeside w (changed w (Obey c.asked.id command)) (mount_of command)
  stays_beside (MoveClients mount destination) c = record {
    sessions = λ other apart. refl;
    seats = λ id seat has away. keeps_away w (To mount destination) mount s.by_number (λ x there. there) id seat has away;
    fallbacks = λ other apart. refl;
    settings = refl;
    users = λ other pair apart. refl;
    addresses = λ peer. refl;
    time = refl;
  }
  stays_beside (KillClient mount listener) c = record {
    sessions = λ other apart. refl;
    seats = λ id seat has away.
        by_number listener id
        (λ same.
        let his = his_seat w s event mount listener c in
        let both : Some his.0 ≡ Some seat = sym his.1 ∙ ap (seat_of w.seats) same ∙ has in
        let one : his.0 ≡ seat = cc in
        let here : bytes_eq mount seat.mount ≡ true = (bytes_eq-Decides mount seat.mount).1 (sym his.2 ∙ ap (λ (x : Seat). x.mount) one) in
        cc)
        (λ apart. ap seat_in (beside_him w s event mount listener c id apart) ∙ has);
    fallbacks = λ other apart. refl;
    settings = refl;
    users = λ other pair apart. refl;
    addresses = λ peer. refl;
    time = refl;
  }
  stays_beside (KillSource mount) c = subst (λ (x : World). StaysBeside w x mount) (sym (is_cut w s event mount c)) (record {
    sessions = λ other apart. beside_ended w.station.live cut.mount other (ap (λ (m : List ℕ). bytes_eq m other) is_named ∙ apart);
    seats = λ id seat has away.
        keeps_away (session_over (answered w c.asked.id) cut.mount) (Ended cut.mount) mount s.by_number
        (λ x there. ap (bytes_eq x.mount) (sym is_named) ∙ there) id seat has away;
    fallbacks = λ other apart. refl;
    settings = refl;
    users = λ other pair apart. refl;
    addresses = λ peer. refl;
    time = refl;
  }) where
    cut : Session
    cut = (live w s event mount c).0

    is_named : cut.mount ≡ mount
    is_named = named w s event mount c
  stays_beside (SetTitle mount text) c = record {
    sessions = λ other apart. on_air_beside w mount text other apart;
    seats = λ id seat has away. has;
    fallbacks = λ other apart. refl;
    settings = refl;
    users = λ other pair apart. refl;
    addresses = λ peer. refl;
    time = refl;
  }
  stays_beside (SetFallback mount fallback) c = record {
    sessions = λ other apart. refl;
    seats = λ id seat has away. has;
    fallbacks = λ other apart. beside_set w.station.fallbacks mount other fallback apart;
    settings = refl;
    users = λ other pair apart. refl;
    addresses = λ peer. refl;
    time = refl;
  }
  stays_beside (AddUser mount user password) c =
      users_beside w c.asked.id mount (λ (users : UserList). with_user users user password)
  stays_beside (DeleteUser mount user) c = users_beside w c.asked.id mount (λ (users : UserList). without_user users user)

pub commands_are_kept : (w : World) → IsSound w → (event : Event) → CommandsAreKept w event
commands_are_kept w s event command c = record {
  done = has_done w s event command c;
  answered = after w event c (λ later. standing_of later c.asked.id ≡ Answered) (is_answered w s event command c);
  beside = after w event c (λ later. StaysBeside w later (mount_of command)) (stays_beside w s event command c);
}

pub killed_hear_nothing : (w : World) → IsSound w → (event : Event) → KilledHearNothing w event
killed_hear_nothing w s event mount id c more =
    let his = his_seat w s event mount id c in
    let given = given_number w s id his.0 his.1 in
    let rises = last_rises w s event in
    hears_no_more (world_after w event) (sound_after w s event) id (omega (arith, given, rises))
    (after w event c (λ later. IsOver (standing_of later id)) (subst IsOver (sym (has_been_killed w s event mount id c)) tt)) more
