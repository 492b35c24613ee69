-- what is shown at the paths of the web site
use Rattle.std.proofs.Common.{◌≡◌, ◌⊎◌, inl, inr, ◌&&◌, Bool, true, false, not, ℕ, Option, Some, None, is_some, List, refl, ap, sym, subst, ◌∙◌, if◌then◌else◌}
use Rattle.radio_laws.proofs.Words.{codes, bytes_eq, bytes_eq-Decides, BadMount, source_rows, verdict_in, Peer, web_path, WebPath, IcecastStatus, Event, Listen, ListenRequest, SourceRequest, Deny, ReplyText, Answer}
use Rattle.radio_laws.proofs.Words.{Outcome, Standing, Undecided, Answered, changed, names_mount, source_facts_at, mount_rows, says, if_undecided, on_verdict, asks_by, shows_page, page_at, server_as, begins, outcome}
use Rattle.radio_laws.proofs.Words.{reply_to, world_after, World, standing_of, asks, turns_answered, IsPath, StatusIsOn, PageIsOn, TellsAt, IsShownAtPath, WhoVisitsIsShown, NobodyFeedsAPath}
use Rattle.radio_values.specs.MountName.{is_mount_name}
use Rattle.radio_settings_values.specs.declared.web.WebPath.TheVariants.{Page as AtPage}
use Rattle.radio_settings_values.specs.declared.web.WebSettings.{WebSettings}
use Rattle.radio_events.specs.declared.event.PageVisit.{PageVisit}
use Rattle.radio_events.specs.declared.reply.Reply.TheVariants.{Text as SaysText}
use Rattle.radio_laws.proofs.Listings.ListingRows.{rows_tell}

-- the settings' words for a path
on_status : (web : WebSettings) (path : List ℕ) → path ≡ codes "/status-json.xsl" → web.icecast_status ≡ true → web_path web path ≡ Some IcecastStatus
unfolding web_path
on_status web path named on = rw (on, (bytes_eq-Decides path (codes "/status-json.xsl")).1 named) refl

on_page : (web : WebSettings) (path : List ℕ) → path ≡ codes "/" → web.page ≡ true → web_path web path ≡ Some AtPage
unfolding web_path
on_page web path named on = rw (named, on) (by_status web.icecast_status) where
  by_status : (b : Bool) → (if b && bytes_eq (codes "/") (codes "/status-json.xsl") then Some IcecastStatus
      else if true && bytes_eq (codes "/") (codes "/") then Some AtPage else None) ≡ Some AtPage
  by_status true = refl
  by_status false = refl

pub is_on : (w : World) (asked : List ℕ) (path : WebPath) → IsPath w asked path → web_path w.station.settings.web asked ≡ Some path
is_on w asked path (StatusIsOn named on) = on_status w.station.settings.web asked named on
is_on w asked path (PageIsOn named on) = on_page w.station.settings.web asked named on

-- and what the settings put on is named so
record IsNamed (on is : Bool) : Type 0 where
  pub put_on : on ≡ true
  pub named : is ≡ true

path_by : (status page is_status is_page : Bool) (path : WebPath)
    → (if status && is_status then Some IcecastStatus else if page && is_page then Some AtPage else None) ≡ Some path
    → ((path ≡ IcecastStatus) × IsNamed status is_status) ⊎ ((path ≡ AtPage) × IsNamed page is_page)
path_by true page true is_page path e = inl (cc, record { put_on = refl; named = refl })
path_by true true false true path e = inr (cc, record { put_on = refl; named = refl })
path_by false true is_status true path e = inr (cc, record { put_on = refl; named = refl })
path_by true true false false path e = cc
path_by true false false is_page path e = cc
path_by false true is_status false path e = cc
path_by false false is_status is_page path e = cc

pub is_path : (w : World) (asked : List ℕ) (path : WebPath) → web_path w.station.settings.web asked ≡ Some path → IsPath w asked path
unfolding web_path
is_path w asked path e =
    by_side (path_by w.station.settings.web.icecast_status w.station.settings.web.page (bytes_eq asked (codes "/status-json.xsl")) (bytes_eq asked (codes "/")) path e)
  where
    by_side : ((path ≡ IcecastStatus) × IsNamed w.station.settings.web.icecast_status (bytes_eq asked (codes "/status-json.xsl")))
        ⊎ ((path ≡ AtPage) × IsNamed w.station.settings.web.page (bytes_eq asked (codes "/"))) → IsPath w asked path
    by_side (inl h) = subst (IsPath w asked) (sym h.0) (StatusIsOn ((bytes_eq-Decides asked (codes "/status-json.xsl")).0 h.1.named) h.1.put_on)
    by_side (inr h) = subst (IsPath w asked) (sym h.0) (PageIsOn ((bytes_eq-Decides asked (codes "/")).0 h.1.named) h.1.put_on)

-- a page shows the present state
pub tells_at : (w : World) (path : WebPath) (visit : PageVisit) → TellsAt w path visit (page_at w path visit)
tells_at w IcecastStatus visit = record {
  rows = mount_rows w;
  of_the_live = rows_tell w;
  server = server_as w.station.settings visit;
  name = refl;
  base = refl;
  start = refl;
  says = refl;
}
tells_at w AtPage visit = refl

shows_so : (w : World) (asked : ListenRequest) (path : WebPath) (now : Standing) (peer : Peer) → now ≡ Undecided peer
    → if_undecided now (λ _. shows_page w asked path) ≡ shows_page w asked path
shows_so w asked path now peer e = rw e refl

module _ (w : World) (asked : ListenRequest) (path : WebPath) (on : web_path w.station.settings.web asked.mount ≡ Some path) (peer : Peer)
    (undecided : standing_of w asked.id ≡ Undecided peer) where
  visited : outcome w (Listen asked) ≡ shows_page w asked path
  unfolding outcome
  visited = ap (asks_by w asked) on ∙ shows_so w asked path (standing_of w asked.id) peer undecided

  pub told_there : reply_to w (Listen asked) ≡ SaysText (page_at w path asked.visit)
  unfolding reply_to
  told_there = ap (λ (o : Outcome). o.reply) visited

  later_there : world_after w (Listen asked) ≡ changed w (Answer asked.id)
  unfolding world_after
  later_there = ap (λ (o : Outcome). changed w o.change) visited

  pub shown_there : (event : Event) (text : ReplyText) → event ≡ Listen asked → page_at w path asked.visit ≡ text → IsShownAtPath w event text
  shown_there event text is told = record {
    asked = asked;
    is_event = is;
    path = path;
    is_path = is_path w asked.mount path on;
    tells = subst (TellsAt w path asked.visit) told (tells_at w path asked.visit);
    answered =
        subst (λ (later : World). standing_of later asked.id ≡ Answered) (sym (ap (world_after w) is ∙ later_there))
        (turns_answered w asked.id (asks w asked.id peer undecided)).his;
    sessions = ap (λ (later : World). later.station.live) (ap (world_after w) is ∙ later_there);
    seats = ap (λ (later : World). later.seats) (ap (world_after w) is ∙ later_there);
  }

pub who_visits_is_shown : (w : World) → WhoVisitsIsShown w
who_visits_is_shown w asked peer path undecided is = (
  page_at w path asked.visit,
  told_there w asked path (is_on w asked.mount path is) peer undecided,
  tells_at w path asked.visit,
)

-- no source feeds such a mount
not_named : (named : Bool) (path : Option WebPath) (it : WebPath) → path ≡ Some it → (named && not (is_some path)) ≡ false
not_named true path it e = rw e refl
not_named false path it e = refl

bad_mount : (w : World) (asked : SourceRequest) (named : Bool) (now : Standing) (peer : Peer) → now ≡ Undecided peer → named ≡ false
    → if_undecided now (λ _. on_verdict (verdict_in (source_rows (if named then Some (source_facts_at w.station asked.mount asked) else None))) (Answer asked.id)
    (begins w.station asked)) ≡ says (Deny BadMount) (Answer asked.id)
bad_mount w asked named now peer e not_it = rw (e, not_it) refl

pub nobody_feeds_a_path : (w : World) → NobodyFeedsAPath w
unfolding reply_to outcome
nobody_feeds_a_path w asked peer path undecided is =
    ap (λ (o : Outcome). o.reply)
    (bad_mount w asked (names_mount w.station.settings asked.mount) (standing_of w asked.id) peer undecided
    (not_named (is_mount_name asked.mount) (web_path w.station.settings.web asked.mount) path (is_on w asked.mount path is)))
