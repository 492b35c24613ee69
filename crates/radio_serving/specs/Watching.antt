-- A server whom a worker watches.
use Rattle.radio_events.specs.Servers.{Steps}
use Rattle.radio_serving.specs.Kinds.{FeedsAfter, event_kind}
use Rattle.radio_serving.specs.Sources.{FeedingClients, nobody_feeds}

-- the server, and who feeds a mount by what was asked of it
pub record WatchedOf (S : Type 0) : Type 0 where
  pub server : S
  pub feeding : FeedingClients

-- one of which nothing was asked
abbrev pub watched_of : {S : Type 0} → S → WatchedOf S
watched_of server = record { server = server; feeding = nobody_feeds }

-- the server answers the event as it does unwatched, and who feeds is noted
abbrev pub WatchedSteps : {S : Type 0} → Steps S → Steps (WatchedOf S)
WatchedSteps steps from event reply to =
    steps from.server event reply to.server × FeedsAfter (event_kind event) reply from.feeding to.feeding
