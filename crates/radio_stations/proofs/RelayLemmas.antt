-- What a relay's thread has done, as work over its pulls, under labels of a range of its own.
use Rattle.std.proofs.Common.{◌≡◌, ℕ, suc, List, [], ◌∷◌, ◌++◌, inl, map, refl, sym, subst, arith}
use Rattle.radio_stations.proofs.Words.{WebAnswers, Entry, Event, Arrive, Clock, Command, Draw, Leave, Listen, Push, RelayDown, RelayUp, Source, SourceEnd, Title, Reply, Arrived, Seated, Drawn, Noted, Text, Deny}
use Rattle.radio_stations.proofs.Words.{Finished, Stray, Chain, Steps, HasPulled, no_pull, one_pull, WatchedOf, WatchedSteps, watched_of, RelaySetting, enrolled, made_on, nobody_came, nothing_yet, pulled, pulled_in}
use Rattle.radio_events.specs.declared.reply.Reply.TheVariants.{Feeding as SaysFeeding}
use Rattle.radio_serving.specs.Kinds.{FeedsAfter, event_kind}
use Rattle.radio_serving.specs.Sources.{FeedingClients, with_source, without_source}
use Rattle.radio_stations.proofs.PullLemmas.{pulls_mean}
use Rattle.radio_stations.proofs.ShiftLemmas.{SlotMade, labels_then, no_labels}

-- who feeds a mount then, whatever the event and its reply
feeds_then : (event : Event) (reply : Reply) (feeding : FeedingClients) → (after : FeedingClients) × FeedsAfter (event_kind event) reply feeding after
feeds_then (Arrive peer) reply feeding = (feeding, refl)
feeds_then (Source request) (Arrived client) feeding = (feeding, refl)
feeds_then (Source request) SaysFeeding feeding = (with_source request.id feeding, inl refl)
feeds_then (Source request) (Seated interval head) feeding = (feeding, refl)
feeds_then (Source request) (Drawn bytes title) feeding = (feeding, refl)
feeds_then (Source request) Noted feeding = (feeding, refl)
feeds_then (Source request) (Text text) feeding = (feeding, refl)
feeds_then (Source request) (Deny rule) feeding = (feeding, refl)
feeds_then (Source request) (Finished rule) feeding = (feeding, refl)
feeds_then (Source request) Stray feeding = (feeding, refl)
feeds_then (Push id block) reply feeding = (feeding, refl)
feeds_then (SourceEnd id) reply feeding = (feeding, refl)
feeds_then (Title id text) reply feeding = (feeding, refl)
feeds_then (Listen request) reply feeding = (feeding, refl)
feeds_then (Draw id room) reply feeding = (feeding, refl)
feeds_then (Command request) reply feeding = (feeding, refl)
feeds_then (Leave id) reply feeding = (without_source id feeding, refl)
feeds_then (RelayUp mount shown) reply feeding = (feeding, refl)
feeds_then (RelayDown id) reply feeding = (feeding, refl)
feeds_then (Clock ms) reply feeding = (feeding, refl)

module _ {S : Type 0} (steps : Steps S) where
  -- a chain of a server's steps is one of the server that is watched, to some note of who feeds
  watched : (from : WatchedOf S) (to : S) (entries : List Entry) → Chain steps from.server entries to
      → (end : WatchedOf S) × (end.server ≡ to) × Chain (WatchedSteps steps) from entries end
  watched from to [] same = (from, sym same, refl)
  watched from to (e ∷ entries) (mid, step, rest) =
      let feeding = feeds_then e.event e.reply from.feeding in
      let between : WatchedOf S = record { server = mid; feeding = feeding.0 } in
      let more = watched between to entries rest in
      (more.0, more.1, (between, (step, feeding.1), more.2))

  -- what a relay's thread made
  pub relay_made : (refuses : S → Event → Type 0) (web : WebAnswers) (from : ℕ) (relay : RelaySetting) (first last : S) → HasPulled steps refuses relay first last
      → SlotMade steps web from first last
  relay_made refuses web from relay first last no_pull = record {
    made = [];
    roll = nobody_came;
    start = watched_of first;
    end = watched_of first;
    worked = nothing_yet;
    begins = refl;
    ends = refl;
    next = from;
    labels = no_labels from;
  }
  relay_made refuses web from relay first last (one_pull mid to before is) =
      let p = relay_made refuses web from relay first mid before in
      let one = pulls_mean steps refuses relay mid last is in
      let place = pulled one.pull.given in
      let new = p.labels.above p.next (omega arith) in
      let at = watched p.end last one.pull.entries (subst (λ (s : S). Chain steps s one.pull.entries last) (sym p.ends) one.chain) in
      record {
        made = p.made ++ map (made_on p.next) one.pull.entries;
        roll = enrolled p.next place p.roll;
        start = p.start;
        end = at.0;
        worked = pulled_in p.made p.end at.0 p.roll p.worked p.next new relay.local_mount one.pull one.course at.2;
        begins = p.begins;
        ends = at.1;
        next = suc p.next;
        labels = labels_then from p.next place p.roll p.labels;
      }
