-- what a command that changes the users of a mount does to its listeners, and to the users that it lets in
use Rattle.std.proofs.Common.{◌≡◌, ◌↔◌, ◌⊎◌, inl, inr, Bool, true, false, ℕ, ◌+◌, Option, Some, None, is_some, List, [], refl, ap, sym, subst, ◌∙◌}
use Rattle.radio_laws.proofs.Words.{◌&&◌, not, if◌then◌else◌, bytes_eq, bytes_eq-Decides, ListenerPassword, Credentials, option_map_or, UserList, with_user, without_user, MountUsers, Lists, users_at, has_users}
use Rattle.radio_laws.proofs.Words.{has_user_at, with_user_at, without_user_at, accepts, lets_in, passes, with_changed, let_in_beside, let_in_still, let_in_then, accepted_set, accepted_beside, refused_gone}
use Rattle.radio_laws.proofs.Words.{accepted_without, by_name, Listener, Seat, Seating, how_many, seat_of, seat_in, listener_of, is_seat_at, holds_of, ended_if, finished_if, with_ended, count_at, LosesSeat}
use Rattle.radio_laws.proofs.Words.{same_or_loses, kept_seat, one, passing_mapped, AddUser, DeleteUser, Event, client_of, is_shut_out, relay_of, Sits, World, standing_of, standing_of_found, IsCommanded, ChangesUsers}
use Rattle.radio_laws.proofs.Words.{answered, outsiders_ended, ListsStep, Stay, IsAdded, IsDeleted, IsSound, reply_to, world_after, may_add, may_delete, needs_hold, with_lists, shut_out_there, lost_in, lists_step}
use Rattle.radio_laws.proofs.Words.{sound_answered, FaresByUsers, IsLetIn, IsShutOut, HaveChanged, StaysBeside, LetInStep, IsSet, IsTakenAway, UsersStep}
use Rattle.md5.specs.Md5.{md5}
use Rattle.radio_addr.specs.declared.address.Address.{Address}
use Rattle.radio_creds.specs.UserList.{has_user}
use Rattle.radio_seats_rows.specs.declared.seat.Seating.TheVariants.{Sits as HasSeat, Finished as HasLostIt}
use Rattle.radio_events.specs.declared.command.Command.{Command as TheCommand}
use Rattle.radio_events.specs.declared.reply.Reply.TheVariants.{Text as SaysText}
use Rattle.radio_events.specs.declared.text.ReplyText.TheVariants.{Ended}
use Rattle.radio_laws.specs.Users.{Stays}

is_let_in : (b : Bool) → not b ≡ false → b ≡ true
is_let_in true e = refl
is_let_in false e = cc

-- a listener at the mount that is not shut out of it is let in
let_in_there : (lists : Lists) (mount : List ℕ) (seat : Seat) → is_shut_out lists mount seat ≡ false → seat.mount ≡ mount → lets_in lists mount seat.pair ≡ true
let_in_there lists mount seat stays at =
    let there : bytes_eq seat.mount mount ≡ true = (bytes_eq-Decides seat.mount mount).1 at in
    is_let_in (lets_in lists mount seat.pair) (sym (ap (λ (b : Bool). b && not (lets_in lists mount seat.pair)) there) ∙ stays)

-- the listeners whom the users of the mount do not let in have lost their seats
module _ (lists : Lists) (mount : List ℕ) (seats : List Listener) where
  abbrev pub left : List Listener
  left = with_ended seats (is_shut_out lists mount) ListenerPassword

  one_at : (seat : Seat) (b c : Bool) → bytes_eq seat.mount mount ≡ b
      → one (is_seat_at mount (if b && c then HasLostIt ListenerPassword seat.mount else HasSeat seat)) + one (b && c) ≡ one b
  one_at seat true true e = refl
  one_at seat true false e = rw e refl
  one_at seat false c e = rw e refl

  one_here : (seating : Seating) → one (is_seat_at mount (ended_if (is_shut_out lists mount) ListenerPassword seating)) + one (holds_of (is_shut_out lists mount) seating)
      ≡ one (is_seat_at mount seating)
  one_here (HasSeat seat) = one_at seat (bytes_eq seat.mount mount) (not (lets_in lists mount seat.pair)) refl
  one_here (HasLostIt rule last) = refl

  pub counted_out : count_at left mount + how_many (is_shut_out lists mount) seats ≡ count_at seats mount
  counted_out =
      passing_mapped (λ (x : Listener). is_seat_at mount x.seating) (finished_if (is_shut_out lists mount) ListenerPassword)
      (λ (x : Listener). holds_of (is_shut_out lists mount) x.seating) (λ x. one_here x.seating) seats

  -- a listener at the mount that still has a seat is let in by them
  pub still_let_in : (id : ℕ) (seat : Seat) → seat_of left id ≡ Some seat → seat.mount ≡ mount → lets_in lists mount seat.pair ≡ true
  still_let_in id seat has at = let_in_there lists mount seat (kept_seat (is_shut_out lists mount) ListenerPassword seats id seat has) at

  -- a listener at another mount still sits there
  pub still_elsewhere : (id : ℕ) (seat : Seat) → seat_of seats id ≡ Some seat → bytes_eq mount seat.mount ≡ false → seat_of left id ≡ Some seat
  still_elsewhere id seat has away = by_loss (same_or_loses (is_shut_out lists mount) ListenerPassword seats id) where
    by_loss : (listener_of left id ≡ listener_of seats id) ⊎ LosesSeat (is_shut_out lists mount) ListenerPassword (listener_of seats id) (listener_of left id)
        → seat_of (with_ended seats (is_shut_out lists mount) ListenerPassword) id ≡ Some seat
    by_loss (inl same) = ap seat_in same ∙ has
    by_loss (inr loses) =
        let both : Some loses.seat ≡ Some seat = sym loses.had_a_seat ∙ has in
        let his : loses.seat ≡ seat = cc in
        let there : mount ≡ seat.mount = (shut_out_there lists mount loses.seat loses.holds).0 ∙ ap (λ (x : Seat). x.mount) his in
        let clash : bytes_eq mount seat.mount ≡ true = (bytes_eq-Decides mount seat.mount).1 there in
        cc

-- a command has changed them
module _ (w : World) (s : IsSound w) (event : Event) {command : TheCommand} (c : IsCommanded w event command) (mount : List ℕ)
    (changes : ChangesUsers w event mount) (lists : Lists) where
  abbrev pub then_so : World
  then_so = outsiders_ended (with_lists (answered w c.asked.id) lists) mount

  fares_there : (id : ℕ) (seat : Seat) → seat_of w.seats id ≡ Some seat → seat.mount ≡ mount → FaresByUsers then_so mount id seat
  fares_there id seat has at = by_loss (same_or_loses (is_shut_out lists mount) ListenerPassword w.seats id) where
    by_loss : (listener_of (left lists mount w.seats) id ≡ listener_of w.seats id)
        ⊎ LosesSeat (is_shut_out lists mount) ListenerPassword (listener_of w.seats id) (listener_of (left lists mount w.seats) id)
        → FaresByUsers then_so mount id seat
    by_loss (inl same) = let has_still = ap seat_in same ∙ has in IsLetIn (still_let_in lists mount w.seats id seat has_still at) has_still
    by_loss (inr loses) =
        let both : Some loses.seat ≡ Some seat = sym loses.had_a_seat ∙ has in
        let his : loses.seat ≡ seat = cc in
        let sat : standing_of (answered w c.asked.id) id ≡ Sits = (sound_answered w s c.asked.id c.peer c.undecided).sitting id seat has in
        IsShutOut
        (ap (λ (m : List ℕ). lets_in lists m seat.pair) (sym at) ∙ ap (λ (x : Seat). lets_in lists x.mount x.pair) (sym his)
        ∙ (shut_out_there lists mount loses.seat loses.holds).1)
        (ap seat_in loses.finished)
        (ap (λ (l : Option Listener). standing_of_found (relay_of w.station.relays id) l (client_of (answered w c.asked.id).station.clients id)) loses.finished
        ∙ lost_in (relay_of w.station.relays id) (listener_of w.seats id) loses.id ListenerPassword loses.seat.mount (client_of (answered w c.asked.id).station.clients id) sat)

  pub have_changed : world_after w event ≡ then_so → reply_to w event ≡ SaysText (Ended (how_many (is_shut_out lists mount) w.seats)) → HaveChanged w event mount
  have_changed later told = record {
    count = how_many (is_shut_out lists mount) w.seats;
    told = told;
    counted = subst (λ (x : World). count_at x.seats mount + how_many (is_shut_out lists mount) w.seats ≡ count_at w.seats mount) (sym later)
        (counted_out lists mount w.seats);
    fares = λ id seat has at. subst (λ (x : World). FaresByUsers x mount id seat) (sym later) (fares_there id seat has at);
  }

-- all else is as it was
pub users_beside : (w : World) (id : ℕ) (mount : List ℕ) (change : UserList → UserList)
    → StaysBeside w (outsiders_ended (with_lists (answered w id) (with_changed w.station.lists mount change)) mount) mount
users_beside w id mount change = record {
  sessions = λ other apart. refl;
  seats = λ him seat has away. still_elsewhere (with_changed w.station.lists mount change) mount w.seats him seat has away;
  fallbacks = λ other apart. refl;
  settings = refl;
  users = λ other pair apart. let_in_beside w.station.lists mount change other pair apart;
  addresses = λ peer. refl;
  time = refl;
}

-- digests that are equal
same_digest : (b : Bool) (password sent : List ℕ) → b ≡ bytes_eq (md5 password) (md5 sent) → (b ≡ true) ↔ (md5 sent ≡ md5 password)
same_digest b password sent is = (
  λ e. sym ((bytes_eq-Decides (md5 password) (md5 sent)).0 (sym is ∙ e)),
  λ same. is ∙ (bytes_eq-Decides (md5 password) (md5 sent)).1 (sym same),
)

module _ (lists : Lists) (mount user : List ℕ) (has : has_users lists mount ≡ true) (pair : Credentials) (his : pair.user ≡ user) where
  his_name : bytes_eq pair.user user ≡ true
  his_name = (bytes_eq-Decides pair.user user).1 his

  pub password_set : (password : List ℕ) → (lets_in (with_user_at lists mount user password) mount (Some pair) ≡ true) ↔ (md5 pair.password ≡ md5 password)
  password_set password =
      same_digest (lets_in (with_user_at lists mount user password) mount (Some pair)) password pair.password
      (let_in_then lists mount (λ users. with_user users user password) has (Some pair) (bytes_eq (md5 password) (md5 pair.password))
      (λ users. accepted_set users user password pair his_name))

  pub user_gone : lets_in (without_user_at lists mount user) mount (Some pair) ≡ false
  user_gone =
      let_in_then lists mount (λ users. without_user users user) has (Some pair) false (λ users. refused_gone users user [] pair his_name)

-- a mount of which a user is taken away has users
some_listed : (listed : Option MountUsers) (user : List ℕ) → option_map_or (λ (l : MountUsers). has_user l.users user) listed false ≡ true → is_some listed ≡ true
some_listed None user e = cc
some_listed (Some listed) user e = refl

pub deleted_has_users : (w : World) (event : Event) {mount user : List ℕ} → IsCommanded w event (DeleteUser mount user) → has_users w.station.lists mount ≡ true
deleted_has_users w event {mount} {user} c =
    some_listed (users_at w.station.lists mount) user
    (may_delete (has_users w.station.lists mount) (has_user_at w.station.lists mount user) (needs_hold w event c))

-- the users that are let in, one step after another
module _ (w : World) (event : Event) where
  record IsMade (later : Lists) : Type 0 where
    pub pairs : (mount : List ℕ) (pair : Credentials) → LetInStep w event mount pair (lets_in w.station.lists mount (Some pair)) (lets_in later mount (Some pair))
    pub without : (mount : List ℕ) → lets_in later mount None ≡ lets_in w.station.lists mount None
    pub addresses : (peer : Address) → passes later peer ≡ passes w.station.lists peer

  as_before : (mount : List ℕ) (pair : Credentials) {before later : Bool} → later ≡ before → LetInStep w event mount pair before later
  as_before mount pair {before} {later} same = subst (λ (b : Bool). LetInStep w event mount pair before b) (sym same) Stays

  -- the users of one mount are changed, in which a pair of the user that is meant is let in by this step
  module _ (mount user : List ℕ) (change : UserList → UserList) (nobody : (users : UserList) → accepts (change users) None ≡ accepts users None)
      (others : (pair : Credentials) → bytes_eq pair.user user ≡ false → (users : UserList) → accepts (change users) (Some pair) ≡ accepts users (Some pair))
      (own : (pair : Credentials) → pair.user ≡ user
      → LetInStep w event mount pair (lets_in w.station.lists mount (Some pair)) (lets_in (with_changed w.station.lists mount change) mount (Some pair))) where
    abbrev now : Lists
    now = with_changed w.station.lists mount change

    there_now : (pair : Credentials) → LetInStep w event mount pair (lets_in w.station.lists mount (Some pair)) (lets_in now mount (Some pair))
    there_now pair =
        by_name pair.user user (own pair) (λ apart. as_before mount pair (let_in_still w.station.lists mount change (Some pair) (others pair apart)))

    is_made : IsMade now
    is_made = record {
      pairs = λ at pair. by_name mount at
          (λ same. subst (λ (m : List ℕ). LetInStep w event m pair (lets_in w.station.lists m (Some pair)) (lets_in now m (Some pair))) same (there_now pair))
          (λ apart. as_before at pair (let_in_beside w.station.lists mount change at (Some pair) apart));
      without = λ at. by_name mount at
          (λ same. subst (λ (m : List ℕ). lets_in now m None ≡ lets_in w.station.lists m None) same (let_in_still w.station.lists mount change None nobody))
          (λ apart. let_in_beside w.station.lists mount change at None apart);
      addresses = λ peer. refl;
    }

  made_by : {later : Lists} → ListsStep w event w.station.lists later → IsMade later
  made_by Stay = record { pairs = λ mount pair. Stays; without = λ mount. refl; addresses = λ peer. refl }
  made_by (IsAdded mount user password c) =
      is_made mount user (λ users. with_user users user password) (λ users. refl) (λ pair apart users. accepted_beside users user password pair apart)
      (λ pair his. IsSet password (lets_in (with_user_at w.station.lists mount user password) mount (Some pair))
      (subst (λ (u : List ℕ). IsCommanded w event (AddUser mount u password)) (sym his) c)
      (password_set w.station.lists mount user (may_add (has_users w.station.lists mount) (needs_hold w event c)) pair his password))
  made_by (IsDeleted mount user c) =
      is_made mount user (λ users. without_user users user) (λ users. refl) (λ pair apart users. accepted_without users user [] pair apart)
      (λ pair his. subst (λ (b : Bool). LetInStep w event mount pair (lets_in w.station.lists mount (Some pair)) b)
      (sym (user_gone w.station.lists mount user (deleted_has_users w event c) pair his))
      (IsTakenAway (subst (λ (u : List ℕ). IsCommanded w event (DeleteUser mount u)) (sym his) c)))

pub users_step : (w : World) → IsSound w → (event : Event) → UsersStep w event
users_step w s event = let made = made_by w event (lists_step w s event) in record { pairs = made.pairs; without = made.without; addresses = made.addresses }
