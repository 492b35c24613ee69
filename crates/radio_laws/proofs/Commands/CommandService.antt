-- a client that may give a command is served
use Rattle.std.proofs.Common.{◌≡◌, Bool, true, false, ℕ, Option, Some, None, is_some, List, [], ◌∷◌, refl, ap, sym, ◌∙◌}
use Rattle.radio_laws.proofs.Words.{◌&&◌, ◌||◌, not, option_map_or, bytes_eq, bytes_eq-Decides, Rule, NoMount, NoDestination, SameMount, NoClient, NoUsers, NoUser, Allow, Row, row, needs_rows, password_rule}
use Rattle.radio_laws.proofs.Words.{command_rows, verdict_in, Credentials, Login, is_login, is_admin_pair, by_name, Seat, Asked, MoveClients, KillClient, KillSource, SetFallback, AddUser, DeleteUser, Command, said_of}
use Rattle.radio_laws.proofs.Words.{opened_by, opener_in, opens, opens_as_source, is_live, is_listener_at, needs_of, facts_asked, counts_by, Carried, IsShort, IsSound, World, IsLive, HasTarget, MayGive, AsTheAdmin}
use Rattle.radio_laws.proofs.Words.{ItsTitle, ItsFallback, WhoMayIsServed, MountUsers, users_at, has_users}
use Rattle.radio_events.specs.declared.command.Command.{Command as TheCommand}
use Rattle.radio_events.specs.declared.command.Command.TheVariants.{SetTitle}
use Rattle.radio_laws.proofs.Commands.CommandSteps.{told_so}
use Rattle.radio_creds.specs.UserList.{has_user}

-- a login is the user and the password that it has
pub is_its : (login : Login) (pair : Credentials) → pair.user ≡ login.username → pair.password ≡ login.password → is_login login pair ≡ true
is_its login pair user password =
    ap (λ (b : Bool). b && bytes_eq login.password pair.password) ((bytes_eq-Decides login.username pair.user).1 (sym user))
    ∙ (bytes_eq-Decides login.password pair.password).1 (sym password)

-- what is said of a command is no listing
pub said_short : (command : TheCommand) (counts : Carried) → IsShort (said_of command counts)
said_short (MoveClients mount destination) counts = tt
said_short (KillClient mount listener) counts = tt
said_short (KillSource mount) counts = tt
said_short (SetTitle mount text) counts = tt
said_short (SetFallback mount fallback) counts = tt
said_short (AddUser mount user password) counts = tt
said_short (DeleteUser mount user) counts = tt

pub or_true : (a : Bool) → (a || true) ≡ true
or_true true = refl
or_true false = refl

module _ (w : World) where
  opens_by : (command : TheCommand) (pair : Credentials) → MayGive w pair command → opens w.station.settings (opened_by command) (Some pair) ≡ true
  opens_by command pair (AsTheAdmin _ admin) =
      ap (λ (b : Bool). b || opens_as_source w.station.settings (opened_by command) (Some pair))
      (is_its w.station.settings.access.admin pair admin.user admin.password)
  opens_by command pair (ItsTitle mount text source) =
      ap (λ (b : Bool). is_admin_pair w.station.settings (Some pair) || b) (is_its _ pair source.user source.password)
      ∙ or_true (is_admin_pair w.station.settings (Some pair))
  opens_by command pair (ItsFallback mount fallback source) =
      ap (λ (b : Bool). is_admin_pair w.station.settings (Some pair) || b) (is_its _ pair source.user source.password)
      ∙ or_true (is_admin_pair w.station.settings (Some pair))

  pub lives : (mount : List ℕ) → IsLive w mount → is_live w.station mount ≡ true
  lives mount live = ap is_some live.1

  pub with_mount : (live : Bool) → live ≡ true → verdict_in (row NoMount (not live) ∷ []) ≡ Allow
  with_mount true e = refl
  with_mount false e = cc

  with_client : (live sits : Bool) → live ≡ true → sits ≡ true → verdict_in (row NoMount (not live) ∷ row NoClient (not sits) ∷ []) ≡ Allow
  with_client true true e f = refl
  with_client true false e f = cc
  with_client false sits e f = cc

  with_users : (has_users : Bool) → has_users ≡ true → verdict_in (row NoUsers (not has_users) ∷ []) ≡ Allow
  with_users true e = refl
  with_users false e = cc

  -- a mount that has this user has users
  with_user : (listed : Option MountUsers) (user : List ℕ) → option_map_or (λ (l : MountUsers). has_user l.users user) listed false ≡ true
      → verdict_in (row NoUsers (not (is_some listed)) ∷ row NoUser (not (option_map_or (λ (l : MountUsers). has_user l.users user) listed false)) ∷ []) ≡ Allow
  with_user None user e = cc
  with_user (Some listed) user e = rw e refl

  with_destination : (live there same : Bool) → live ≡ true → there ≡ true → same ≡ false
      → verdict_in (row NoMount (not live) ∷ row NoDestination (not there) ∷ row SameMount same ∷ []) ≡ Allow
  with_destination true true false e f g = refl
  with_destination true true true e f g = cc
  with_destination true false same e f g = cc
  with_destination false there same e f g = cc

  needs_are_there : (command : TheCommand) → HasTarget w command → verdict_in (needs_rows (needs_of w command)) ≡ Allow
  needs_are_there (MoveClients mount destination) there =
      with_destination (is_live w.station mount) (is_live w.station destination) (bytes_eq mount destination) (lives mount there.0) (lives destination there.1)
      (by_name mount destination (λ same. absurd (there.2 same)) (λ apart. apart))
  needs_are_there (KillClient mount listener) there =
      with_client (is_live w.station mount) (is_listener_at w.seats mount listener) (lives mount there.0)
      (ap (λ (found : Option Seat). option_map_or (λ (seat : Seat). bytes_eq seat.mount mount) found false) there.2
      ∙ (bytes_eq-Decides there.1.mount mount).1 there.3)
  needs_are_there (KillSource mount) there = with_mount (is_live w.station mount) (lives mount there)
  needs_are_there (SetTitle mount text) there = with_mount (is_live w.station mount) (lives mount there)
  needs_are_there (SetFallback mount fallback) there = with_mount (is_live w.station mount) (lives mount there)
  needs_are_there (AddUser mount user password) there = with_users (has_users w.station.lists mount) there
  needs_are_there (DeleteUser mount user) there = with_user (users_at w.station.lists mount) user there

  -- an open command is judged by what it needs
  pub judged : (rule : Rule) (opened : Bool) (rows : List Row) → opened ≡ true → verdict_in rows ≡ Allow → verdict_in (row rule (not opened) ∷ rows) ≡ Allow
  judged rule true rows e v = v
  judged rule false rows e v = cc

  pub who_may_is_served : IsSound w → WhoMayIsServed w
  who_may_is_served s asked peer command pair undecided is_asked sent may there = (
    said_of command (counts_by w command),
    told_so w (Command asked) (record { asked = asked; is_event = refl; is_asked = is_asked; peer = peer; undecided = undecided; allowed = allowed }),
    said_short command (counts_by w command),
  ) where
    opened : opens w.station.settings (opened_by command) asked.pair ≡ true
    opened = ap (opens w.station.settings (opened_by command)) sent ∙ opens_by command pair may

    allowed : verdict_in (command_rows (facts_asked w asked.asked asked.pair)) ≡ Allow
    allowed =
        ap (λ (a : Asked). verdict_in (command_rows (facts_asked w a asked.pair))) is_asked
        ∙ judged (password_rule (opener_in (opened_by command))) (opens w.station.settings (opened_by command) asked.pair) (needs_rows (needs_of w command)) opened
        (needs_are_there command there)
