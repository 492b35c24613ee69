-- A relay's connection in a script after something arrives on it.
use Rattle.std.proofs.Common.{◌≡◌, ℕ, List, [], ◌++◌, Some, refl}
use Rattle.std.specs.Option.{option_map}
use Rattle.radio_headline.proofs.Words.{concat, blocks_of, Entry, Event, State, Running, Shut, Ending, world_after_all, Step, World, ShowsRequest, IsStableReading, HeadsLieWithin, ShowsResponse, items_of, AfterPieces}
use Rattle.radio_headline.proofs.Words.{HeardInPieces, AreOfEventIf, IsGoingDown, Takes, Pulling, NumberedState, shut_by, Data, Relay, connection_unless, Place, after, data_of, ComesToNoted, pushed_by, WebAnswers}
use Rattle.radio_headline.proofs.Logs.{entries}
use Rattle.radio_headline.proofs.Relays.RelayLogs.{at, comes_lifts}
use Rattle.radio_headline.proofs.Relays.RelayWords.{IsNoUp, OfRelay}
use Rattle.radio_headline.proofs.Connections.{Facts, HasAskedNothing, HasSentGet, IsPulling, IsRelay, IsSo, IsSource}
use Rattle.radio_headline.proofs.HeardLemmas.{more_for_get, more_for_source}
use Rattle.radio_headline.proofs.OwnLogs.{relay_owns}
use Rattle.radio_headline.proofs.Relays.PullEntries.{down_brought, downs, event_brought, plain_event}
use Rattle.radio_headline.proofs.Relays.PullParts.{more_pulled}
use Rattle.radio_headline.proofs.Relays.PullTurns.{IsStill, facts_of, idles_on, takes_on}

module _ (web : WebAnswers) (settled : IsStableReading ShowsResponse) (within : HeadsLieWithin ShowsResponse)
    (joined : (bytes : List ℕ) → concat (blocks_of bytes) ≡ bytes) (none_blocks : blocks_of [] ≡ []) (in_pieces : HeardInPieces) (afters : AfterPieces) where
  -- it goes on, or was shut
  still_so : (bytes : List ℕ) (log : List Entry) (given : List ℕ) (now : Pulling) (ends : State) → IsStill bytes log now ends
      → IsSo web (Some (connection_unless (Some (Relay now)) ends)) bytes log given
  still_so bytes log given now Running s = record { own = s.own; number = s.number; stage = s.stage refl }
  still_so bytes log given now (Shut ending) s = record { own = relay_owns log s.own; facts = facts_of web bytes log given s.pulls }

  -- something arrives on a relay's connection that is open
  module _ (w : World) (bytes : List ℕ) (log : List Entry) (pulling : Pulling) (r : IsRelay bytes log pulling) (given : List ℕ) where
    -- a single event is applied if the relay is up, and it pushes nothing
    pub asks_so : (event : ℕ → Event) (events : List Event) (after : NumberedState) → ((id : ℕ) → OfRelay (Some id) (event id))
        → ((id : ℕ) → pushed_by (event id) ≡ []) → ((id : ℕ) → IsNoUp (event id))
        → AreOfEventIf pulling.number (option_map event pulling.number) (entries w events) after
        → IsSo web (Some (connection_unless (Some (Relay (record pulling { number = after.number }))) after.state)) bytes (log ++ entries w events) given
    asks_so event events after his silent plain a =
        still_so bytes (log ++ entries w events) given (record pulling { number = after.number }) after.state
        (idles_on settled within joined none_blocks in_pieces afters bytes log pulling r (entries w events) (record pulling { number = after.number }) after.state after
        (event_brought pulling.number event (entries w events) after his silent a)
        (plain_event pulling.number event (entries w events) after plain a) refl refl)

    -- the relay goes down
    pub down_so : (ending : Ending) (events : List Event) → IsGoingDown pulling.number (entries w events)
        → IsSo web (Some (connection_unless (Some (Relay pulling)) (Shut ending))) bytes (log ++ entries w events) given
    down_so ending events goes =
        still_so bytes (log ++ entries w events) given pulling (Shut ending)
        (idles_on settled within joined none_blocks in_pieces afters bytes log pulling r (entries w events) pulling (Shut ending) (shut_by pulling.number ending)
        (down_brought pulling.number ending (entries w events) goes) (downs pulling.number (entries w events) goes).plain refl refl)

    -- bytes of the answer come
    pub record Taken (more : List ℕ) (now : Pulling) (ends : State) (later : World) : Type 0 where
      pub events : List Event
      pub done : ComesToNoted w pulling (Data more) (at later events)
      pub leads : later ≡ world_after_all w events
      pub so : IsSo web (Some (connection_unless (Some (Relay now)) ends)) (bytes ++ more) (log ++ entries w events) given

    pub takes_so : (more : List ℕ) (now : Pulling) (ends : State) (later : World) → Takes Step pulling more w now ends later → Taken more now ends later
    takes_so more now ends later (pulled, is_pulled, c) =
        let l = comes_lifts pulling (items_of pulled.parts) pulled.standing w later now ends c in
        record {
          events = l.events;
          done = (now, ends, (pulled, is_pulled, l.lifted));
          leads = l.leads;
          so = still_so (bytes ++ more) (log ++ entries w l.events) given now ends
              (takes_on settled within joined none_blocks in_pieces afters bytes log pulling r (entries w l.events) more now ends (pulled, is_pulled, l.are));
        }

  -- more bytes may come after the pull was shut
  module _ (settled_requests : IsStableReading ShowsRequest) (within_requests : HeadsLieWithin ShowsRequest)
      (places : (place : Place) (first second : List ℕ) → after place (first ++ second) ≡ after (after place first) second)
      (data_joined : (place : Place) (first second : List ℕ) → data_of place (first ++ second) ≡ data_of place first ++ data_of (after place first) second) where
    pub more_facts : (bytes more : List ℕ) (log : List Entry) (given : List ℕ) → Facts web bytes log given → Facts web (bytes ++ more) log given
    more_facts bytes more log given (HasAskedNothing h) = HasAskedNothing h
    more_facts bytes more log given (HasSentGet g) =
        HasSentGet (more_for_get settled_requests within_requests joined places data_joined web bytes more log given g)
    more_facts bytes more log given (IsSource f told) =
        IsSource (more_for_source settled_requests within_requests joined places data_joined bytes more log f) told
    more_facts bytes more log given (IsPulling p) = IsPulling (more_pulled settled within joined none_blocks in_pieces afters bytes more log p)
