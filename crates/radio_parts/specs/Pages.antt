-- What a client is shown whose path is one of the web site's.
use Rattle.std.specs.Prelude.{◌≡◌, Option, Some, None}
use Rattle.radio_settings_values.specs.declared.web.WebPath.{WebPath}
use Rattle.radio_settings_values.specs.Web.{web_path}
use Rattle.radio_events.specs.declared.command.Listing.{Listing}
use Rattle.radio_events.specs.declared.event.Event.{Event}
use Rattle.radio_events.specs.declared.event.Event.TheVariants.{Listen}
use Rattle.radio_events.specs.declared.event.ListenRequest.{ListenRequest}
use Rattle.radio_events.specs.declared.reply.Reply.TheVariants.{Text as SaysText}
use Rattle.radio_events.specs.declared.text.ReplyText.{ReplyText}
use Rattle.radio_parts_changes.specs.declared.change.Change.TheVariants.{Answer}
use Rattle.radio_parts.specs.declared.outcome.Outcome.{Outcome}
use Rattle.radio_parts.specs.Allowed.{IsListed}
use Rattle.radio_parts.specs.Listen.{listen_outcome}
use Rattle.radio_parts_facts.specs.Listings.{shown}
use Rattle.radio_parts_facts.specs.Pages.{page_at}
use Rattle.radio_parts.specs.Outcomes.{says, if_undecided}
use Rattle.radio_parts_station.specs.World.{World, standing_of}

-- the client is shown it, and has had its answer
abbrev pub shows_page : World → ListenRequest → WebPath → Outcome
shows_page w asked path = says (SaysText (page_at w path asked.visit)) (Answer asked.id)

-- a client asks by a path, which is one of the web site's, or may be that of a mount
abbrev pub asks_by : World → ListenRequest → Option WebPath → Outcome
asks_by w asked None = listen_outcome w asked
asks_by w asked (Some path) = if_undecided (standing_of w asked.id) (λ _. shows_page w asked path)

-- rule: Icecast status
abbrev pub asks_by_path : World → ListenRequest → Outcome
asks_by_path w asked = asks_by w asked (web_path w.station.settings.web asked.mount)

-- the event asks to be shown something of the station, and this is it: a listing that the policy allows, or a page of the web site
-- rule: Icecast status
pub data IsShownBy (w : World) (event : Event) : ReplyText → Type 0 where
  IsListing : (listing : Listing) → IsListed w event listing → IsShownBy w event (shown w listing)
  IsAtPath : (asked : ListenRequest) (path : WebPath) → event ≡ Listen asked → web_path w.station.settings.web asked.mount ≡ Some path
      → IsShownBy w event (page_at w path asked.visit)
