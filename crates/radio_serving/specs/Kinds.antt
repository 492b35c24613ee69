-- What an event may bring to others.
use Rattle.std.specs.Prelude.{◌≡◌, ◌⊎◌, Bool, true, false, ◌||◌}
use Rattle.radio_events.specs.declared.event.Event.{Event}
use Rattle.radio_events.specs.declared.event.Event.TheVariants.{Push, SourceEnd, Title, RelayUp, RelayDown, Source, Leave, Command as Commands}
use Rattle.radio_events.specs.declared.reply.Reply.{Reply}
use Rattle.radio_events.specs.declared.reply.Reply.TheVariants.{Feeding as SaysFeeding, Text}
use Rattle.radio_serving.specs.declared.found.Found.{Found}
use Rattle.radio_serving.specs.declared.found.Take.{Take}
use Rattle.radio_serving.specs.declared.found.Take.TheVariants.{News as TakesNews, All as TakesAll}
use Rattle.radio_serving.specs.declared.kind.Kind.{Kind}
use Rattle.radio_serving.specs.declared.kind.Kind.TheVariants.{News, Command, Feeds, Leaves, Own}
use Rattle.radio_serving.specs.Sources.{FeedingClients, with_source, blinded, without_source, may_feed}

-- a block, a title, the end of a source and a relay that goes up or down are news. A command is, if it is done; a source and a leave may
-- be. All else concerns its client alone
abbrev pub event_kind : Event → Kind
event_kind (Push id block) = News
event_kind (SourceEnd id) = News
event_kind (Title id text) = News
event_kind (RelayUp mount shown) = News
event_kind (RelayDown id) = News
event_kind (Commands request) = Command
event_kind (Source request) = Feeds request.id
event_kind (Leave id) = Leaves id
event_kind event = Own

-- who feeds a mount after an event of this kind had this reply: one more if it began to feed, without it if it has left. If memory
-- was refused for its number, each may be one
abbrev pub FeedsAfter : Kind → Reply → FeedingClients → FeedingClients → Type 0
FeedsAfter (Feeds id) SaysFeeding f f' = (f' ≡ with_source id f) ⊎ (f' ≡ blinded f)
FeedsAfter (Feeds id) reply f f' = f' ≡ f
FeedsAfter (Leaves id) reply f f' = f' ≡ without_source id f
FeedsAfter kind reply f f' = f' ≡ f

-- nothing is found
abbrev pub nothing_found : Found
nothing_found = record { has_news = false; has_started = false }

-- whether a command was done, and whether a client feeds from now on
abbrev pub is_done : Reply → Bool
is_done (Text text) = true
is_done reply = false

abbrev pub is_feeding : Reply → Bool
is_feeding SaysFeeding = true
is_feeding reply = false

-- what a worker has found once an event of this kind had this reply: news, or a client that has begun to feed
-- a client that leaves is news if it may have fed a mount
abbrev pub found_after : Kind → Reply → Bool → Found → Found
found_after News reply fed found = record found { has_news = true }
found_after Command reply fed found = record found { has_news = is_done reply || found.has_news }
found_after (Feeds id) reply fed found = record found { has_started = is_feeding reply || found.has_started }
found_after (Leaves id) reply fed found = record found { has_news = fed || found.has_news }
found_after Own reply fed found = found

-- whether the client of an event of this kind leaves, and may have fed a mount
abbrev pub source_leaves : Kind → FeedingClients → Bool
source_leaves (Leaves id) feeding = may_feed id feeding
source_leaves kind feeding = false

-- what is left of what was found once this was taken of it
abbrev pub left_of : Take → Found → Found
left_of TakesNews found = record found { has_news = false }
left_of TakesAll found = nothing_found
