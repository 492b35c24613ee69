-- What a worker has found after events and their replies.
use Rattle.std.proofs.Common.{◌≡◌, Bool, ◌||◌, List, [], ◌∷◌, refl, ap, ◌∙◌}
use Rattle.std.specs.List.{list_any}
use Rattle.radio_events.specs.declared.entry.Entry.{Entry}
use Rattle.radio_events.specs.declared.event.Event.{Event}
use Rattle.radio_events.specs.declared.event.Event.TheVariants.{Arrive, Source, Push, SourceEnd, Title, Listen, Draw, Leave, RelayUp, RelayDown, Clock, Command as Commands}
use Rattle.radio_events.specs.declared.reply.Reply.{Reply}
use Rattle.radio_events.specs.declared.reply.Reply.TheVariants.{Arrived, Feeding as SaysFeeding, Seated, Drawn, Noted, Text, Deny, Finished, Stray}
use Rattle.radio_serving.specs.declared.found.Found.{Found}
use Rattle.radio_serving.specs.Kinds.{found_after, event_kind}
use Rattle.radio_serving.specs.Laws.{found_after_all, may_be_news}

-- by one of them there is news, or there was before
once : (event : Event) (reply : Reply) (fed : Bool) (found : Found) → (found_after (event_kind event) reply fed found).has_news ≡ (may_be_news event reply fed || found.has_news)
once (Arrive peer) reply fed found = refl
once (Source request) reply fed found = refl
once (Push id block) reply fed found = refl
once (SourceEnd id) reply fed found = refl
once (Title id text) reply fed found = refl
once (Listen request) reply fed found = refl
once (Draw id room) reply fed found = refl
once (Commands request) (Arrived id) fed found = refl
once (Commands request) SaysFeeding fed found = refl
once (Commands request) (Seated a b) fed found = refl
once (Commands request) (Drawn pieces title) fed found = refl
once (Commands request) Noted fed found = refl
once (Commands request) (Text text) fed found = refl
once (Commands request) (Deny rule) fed found = refl
once (Commands request) (Finished rule) fed found = refl
once (Commands request) Stray fed found = refl
once (Leave id) reply fed found = refl
once (RelayUp mount shown) reply fed found = refl
once (RelayDown id) reply fed found = refl
once (Clock ms) reply fed found = refl

pub news_found : (done : List (Entry × Bool)) → (found_after_all done).has_news ≡ list_any (λ one. may_be_news one.0.event one.0.reply one.1) done
news_found [] = refl
news_found (one ∷ earlier) =
    once one.0.event one.0.reply one.1 (found_after_all earlier)
    ∙ ap (λ before. may_be_news one.0.event one.0.reply one.1 || before) (news_found earlier)
