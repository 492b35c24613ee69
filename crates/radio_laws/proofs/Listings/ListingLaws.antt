-- which clients are shown a listing, and what it shows
use Rattle.std.proofs.Common.{◌≡◌, ◌⊎◌, inl, inr, ◌||◌, ◌&&◌, Bool, true, false, ℕ, Option, Some, None, List, refl, ap, sym, subst, ◌∙◌, [], ◌∷◌}
use Rattle.radio_laws.proofs.Words.{not, option_map_or, bytes_eq, bytes_eq-Decides, Verdict, Allow, AdminPassword, RelayPassword, NoMount, row, command_rows, verdict_in, Peer, Credentials, is_admin_pair, is_relay_pair}
use Rattle.radio_laws.proofs.Words.{is_relays, is_user_with, Asked, Listing, Status, Stats, Mounts, Clients, Streams, Event, Command, ReplyText, IsShort, Answer, Outcome, Standing, Undecided, Answered, changed}
use Rattle.radio_laws.proofs.Words.{does_asked, shows, IsListed, is_live, facts_asked, rows_to_command, counts_by, shown, IsShownBy, IsListing, IsAtPath, page_at, client_in, if_undecided, on_verdict, outcome, reply_to}
use Rattle.radio_laws.proofs.Words.{world_after, World, standing_of, asks, turns_answered, may_act, past_sent, IsTheRelays, MaySee, AsAnybody, AsARelay, IsThereToSee, IsShownByRight, IsShownAtPath, OnlyWhoMayIsShown}
use Rattle.radio_laws.proofs.Words.{WhoMayIsShown, Tells}
use Rattle.radio_settings_values.specs.declared.settings.RelayAccess.{RelayAccess}
use Rattle.radio_events.specs.declared.command.Asked.TheVariants.{Listing as AsksFor}
use Rattle.radio_events.specs.declared.reply.Reply.TheVariants.{Text as SaysText}
use Rattle.radio_laws.proofs.Denials.GrantedLemmas.{IsToldFor, ByShowing, ByDoing}
use Rattle.radio_laws.proofs.Listings.ToldTexts.{told_for}
use Rattle.radio_laws.specs.Shown.{AsTheAdmin}
use Rattle.radio_laws.proofs.Commands.CommandLaws.{lives_by, login_sent, one_of}
use Rattle.radio_laws.proofs.Seats.WalkLemmas.{both}
use Rattle.radio_laws.proofs.Commands.CommandService.{is_its, or_true, lives, with_mount, judged, said_short}
use Rattle.radio_laws.proofs.Listings.ListingRows.{tells}
use Rattle.radio_laws.proofs.Listings.WebLaws.{shown_there}

-- a relay's pair that was sent
record HasRelays (relays : RelayAccess) (sent : Option Credentials) : Type 0 where
  pub pair : Credentials
  pub is_sent : sent ≡ Some pair
  pub user : pair.user ≡ relays.username
  pub password : relays.password ≡ Some pair.password

relays_sent : (relays : RelayAccess) (sent : Option Credentials) → option_map_or (is_relays relays) sent false ≡ true → HasRelays relays sent
relays_sent relays None e = cc
relays_sent relays (Some pair) e = by_password relays.password refl e where
  by_password : (set : Option (List ℕ)) → relays.password ≡ set → option_map_or (λ password. is_user_with relays.username password pair) set false ≡ true
      → HasRelays relays (Some pair)
  by_password None is e = cc
  by_password (Some password) is e =
      let parts = both (bytes_eq relays.username pair.user) (bytes_eq password pair.password) e in
      record {
        pair = pair;
        is_sent = refl;
        user = sym ((bytes_eq-Decides relays.username pair.user).0 parts.0);
        password = is ∙ ap (λ (p : List ℕ). Some p) ((bytes_eq-Decides password pair.password).0 parts.1);
      }

module _ (w : World) where
  as_admin : (listing : Listing) (sent : Option Credentials) → is_admin_pair w.station.settings sent ≡ true → MaySee w listing sent
  as_admin listing sent e =
      let has = login_sent w.station.settings.access.admin sent e in
      subst (MaySee w listing) (sym has.is_sent) (AsTheAdmin listing has.pair (record { user = has.user; password = has.password }))

  as_relay : (sent : Option Credentials) → is_relay_pair w.station.settings sent ≡ true → MaySee w Streams sent
  as_relay sent e =
      let has = relays_sent w.station.settings.access.relays sent e in
      subst (MaySee w Streams) (sym has.is_sent) (AsARelay has.pair (record { user = has.user; password = has.password }))

  as_either : (sent : Option Credentials) → (is_admin_pair w.station.settings sent ≡ true) ⊎ (is_relay_pair w.station.settings sent ≡ true) → MaySee w Streams sent
  as_either sent (inl admin) = as_admin Streams sent admin
  as_either sent (inr relay) = as_relay sent relay

  -- a client that the policy allows a listing may see it
  may_see : (listing : Listing) (sent : Option Credentials) → verdict_in (command_rows (facts_asked w (AsksFor listing) sent)) ≡ Allow
      → MaySee w listing sent × IsThereToSee w listing
  may_see Status sent e = (AsAnybody sent, tt)
  may_see Stats sent e = (as_admin Stats sent (past_sent AdminPassword (is_admin_pair w.station.settings sent) [] e).0, tt)
  may_see Mounts sent e = (as_admin Mounts sent (past_sent AdminPassword (is_admin_pair w.station.settings sent) [] e).0, tt)
  may_see (Clients mount) sent e =
      let parts = past_sent AdminPassword (is_admin_pair w.station.settings sent) (row NoMount (not (is_live w.station mount)) ∷ []) e in
      (as_admin (Clients mount) sent parts.0, lives_by w mount (may_act (is_live w.station mount) parts.1))
  may_see Streams sent e = (
    as_either sent
        (one_of (is_admin_pair w.station.settings sent) (is_relay_pair w.station.settings sent)
        (past_sent RelayPassword (is_admin_pair w.station.settings sent || is_relay_pair w.station.settings sent) [] e).0),
    tt,
  )

  -- and a client that may see it is allowed it
  is_admins : (pair : Credentials) (listing : Listing) → (user : pair.user ≡ w.station.settings.access.admin.username)
      → pair.password ≡ w.station.settings.access.admin.password → is_admin_pair w.station.settings (Some pair) ≡ true
  is_admins pair listing user password = is_its w.station.settings.access.admin pair user password

  is_a_relays : (pair : Credentials) → IsTheRelays w pair → is_relay_pair w.station.settings (Some pair) ≡ true
  is_a_relays pair relay =
      ap (λ (set : Option (List ℕ)). option_map_or (λ password. is_user_with w.station.settings.access.relays.username password pair) set false) relay.password
      ∙ ap (λ (b : Bool). b && bytes_eq pair.password pair.password) ((bytes_eq-Decides w.station.settings.access.relays.username pair.user).1 (sym relay.user))
      ∙ (bytes_eq-Decides pair.password pair.password).1 refl

  allowed_all : (listing : Listing) (sent : Option Credentials) → is_admin_pair w.station.settings sent ≡ true → IsThereToSee w listing
      → verdict_in (command_rows (facts_asked w (AsksFor listing) sent)) ≡ Allow
  allowed_all Status sent e there = refl
  allowed_all Stats sent e there = judged w AdminPassword (is_admin_pair w.station.settings sent) [] e refl
  allowed_all Mounts sent e there = judged w AdminPassword (is_admin_pair w.station.settings sent) [] e refl
  allowed_all (Clients mount) sent e there =
      judged w AdminPassword (is_admin_pair w.station.settings sent) (row NoMount (not (is_live w.station mount)) ∷ []) e
      (with_mount w (is_live w.station mount) (lives w mount there))
  allowed_all Streams sent e there =
      judged w RelayPassword (is_admin_pair w.station.settings sent || is_relay_pair w.station.settings sent) []
      (ap (λ (b : Bool). b || is_relay_pair w.station.settings sent) e) refl

  is_allowed : (listing : Listing) (sent : Option Credentials) → MaySee w listing sent → IsThereToSee w listing
      → verdict_in (command_rows (facts_asked w (AsksFor listing) sent)) ≡ Allow
  is_allowed listing sent (AsAnybody _) there = refl
  is_allowed listing sent (AsARelay pair relay) there =
      judged w RelayPassword (is_admin_pair w.station.settings (Some pair) || is_relay_pair w.station.settings (Some pair)) []
      (ap (λ (b : Bool). is_admin_pair w.station.settings (Some pair) || b) (is_a_relays pair relay) ∙ or_true (is_admin_pair w.station.settings (Some pair)))
      refl
  is_allowed listing sent (AsTheAdmin _ pair admin) there = allowed_all listing (Some pair) (is_admins pair listing admin.user admin.password) there

-- the outcome of a listing that the policy allows
shows_so : (w : World) (id : ℕ) (listing : Listing) (now : Standing) (peer : Peer) (verdict : Verdict) (asked : Asked) → now ≡ Undecided peer → verdict ≡ Allow
    → asked ≡ AsksFor listing → if_undecided now (λ _. on_verdict verdict (Answer id) (does_asked w id asked)) ≡ shows w id listing
shows_so w id listing now peer verdict asked e v is = rw (e, v, is) refl

module _ (w : World) (event : Event) (listing : Listing) (c : IsListed w event listing) where
  pub comes_of : outcome w event ≡ shows w c.asked.id listing
  unfolding outcome
  comes_of =
      ap (outcome w) c.is_event
      ∙ shows_so w c.asked.id listing (standing_of w c.asked.id) c.peer (verdict_in (rows_to_command w c.asked)) c.asked.asked c.undecided c.allowed c.is_asked

  later_so : world_after w event ≡ changed w (Answer c.asked.id)
  unfolding world_after
  later_so = ap (λ (o : Outcome). changed w o.change) comes_of

  pub told_so : reply_to w event ≡ SaysText (shown w listing)
  unfolding reply_to
  told_so = ap (λ (o : Outcome). o.reply) comes_of

  by_right : (text : ReplyText) → shown w listing ≡ text → IsShownByRight w event text
  by_right text is =
      let sees = may_see w listing c.asked.pair
      (ap (λ (a : Asked). verdict_in (command_rows (facts_asked w a c.asked.pair))) (sym c.is_asked) ∙ c.allowed) in
      record {
        asked = c.asked;
        is_event = c.is_event;
        listing = listing;
        is_asked = c.is_asked;
        may = sees.0;
        there = sees.1;
        tells = subst (Tells w listing) is (tells w listing);
        answered =
            subst (λ (later : World). standing_of later c.asked.id ≡ Answered) (sym later_so)
            (turns_answered w c.asked.id (asks w c.asked.id c.peer c.undecided)).his;
        sessions = ap (λ (later : World). later.station.live) later_so;
        seats = ap (λ (later : World). later.seats) later_so;
      }

-- or what is at a path of the web site
module _ (w : World) (event : Event) (asker : ℕ) (peer : Peer) (its : client_in event ≡ Some asker) (undecided : standing_of w asker ≡ Undecided peer) where
  by_what : (text : ReplyText) → IsShownBy w event text → IsShownByRight w event text ⊎ IsShownAtPath w event text
  by_what text (IsListing listing c) = inl (by_right w event listing c (shown w listing) refl)
  by_what text (IsAtPath asked path is on) =
      let both : Some asked.id ≡ Some asker = sym (ap client_in is) ∙ its in
      let same : asked.id ≡ asker = cc in
      inr (shown_there w asked path on peer (ap (standing_of w) same ∙ undecided) event (page_at w path asked.visit) is refl)

pub only_who_may_is_shown : (w : World) (event : Event) → OnlyWhoMayIsShown w event
only_who_may_is_shown w event text d long = by_cause (told_for w event text d) where
  by_cause : IsToldFor w event text → IsShownByRight w event text ⊎ IsShownAtPath w event text
  by_cause (ByShowing asker peer its undecided what) = by_what w event asker peer its undecided text what
  by_cause (ByDoing command c said) = absurd (long (subst IsShort said (said_short command (counts_by w command))))

pub who_may_is_shown : (w : World) → WhoMayIsShown w
who_may_is_shown w asked peer listing undecided is_asked may there = (
  shown w listing,
  told_so w (Command asked) listing (record { asked = asked; is_event = refl; is_asked = is_asked; peer = peer; undecided = undecided; allowed = allowed }),
  tells w listing,
) where
  allowed : verdict_in (command_rows (facts_asked w asked.asked asked.pair)) ≡ Allow
  allowed = ap (λ (a : Asked). verdict_in (command_rows (facts_asked w a asked.pair))) is_asked ∙ is_allowed w listing asked.pair may there
