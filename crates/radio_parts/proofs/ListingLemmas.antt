-- What is shown is no short text, so it has no number of those who were moved.
use Rattle.std.proofs.Common.{◌≡◌, refl}
use Rattle.radio_parts.proofs.Words.{Listing, Status, Stats, Mounts, Clients, Streams, ReplyText, shown, IsShownBy, IsListing, IsAtPath, page_at, told_counts, WebPath, Event, World, Carried}
use Rattle.radio_events.specs.declared.text.ReplyText.TheVariants.{Done, Moved, Ended, Json, Streams as StreamList, Public, Page}
use Rattle.radio_settings_values.specs.declared.web.WebPath.TheVariants.{IcecastStatus, Page as AtPage}
use Rattle.radio_events.specs.declared.event.PageVisit.{PageVisit}
use Rattle.radio_events.specs.Texts.{IsShort}

module _ (w : World) where
  pub no_short : (listing : Listing) → IsShort (shown w listing) → ⊥
  no_short Status short = short
  no_short Stats short = short
  no_short Mounts short = short
  no_short (Clients mount) short = short
  no_short Streams short = short

  no_short_page : (path : WebPath) (visit : PageVisit) → IsShort (page_at w path visit) → ⊥
  no_short_page IcecastStatus visit short = short
  no_short_page AtPage visit short = short

  pub shown_long : (event : Event) (text : ReplyText) → IsShownBy w event text → IsShort text → ⊥
  shown_long event text (IsListing listing c) short = no_short listing short
  shown_long event text (IsAtPath asked path is_event is_path) short = no_short_page path asked.visit short

  -- so it names no number of listeners moved or finished
  pub shown_untold : (event : Event) (text : ReplyText) → IsShownBy w event text → (counts : Carried) → told_counts text counts ≡ text
  shown_untold event text shown counts = untold text (shown_long event text shown) where
    untold : (text : ReplyText) → (IsShort text → ⊥) → told_counts text counts ≡ text
    untold Done long = absurd (long tt)
    untold (Moved other) long = absurd (long tt)
    untold (Ended other) long = absurd (long tt)
    untold (Json bytes) long = refl
    untold (StreamList bytes) long = refl
    untold (Public bytes origin) long = refl
    untold (Page origin) long = refl
