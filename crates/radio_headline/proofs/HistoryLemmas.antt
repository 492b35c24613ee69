-- What was noted is the result of the events.
use Rattle.std.proofs.Common.{◌≡◌, ℕ, List, [], ◌∷◌, ◌++◌, refl, sym, ap, subst, ◌∙◌}
use Rattle.radio_headline.proofs.Words.{Settings, Lists, Event, Reply, Call, sound_of_calls, of_client, delivered, world_after_all, reply_to, world_after, World, opening, sittings, AreStretches, draws_of, Entry}
use Rattle.radio_headline.proofs.Words.{IsLawful, DrawsAreCut, DrawsAreStretches, draws_to, NobodyDelivers}
use Rattle.radio_chronicle.specs.History.{IsRun}
use Rattle.radio_headline.specs.Histories.{HistoriesAreLawful, draws_noted, events_noted}

noted_so : (w : World) (history : List Entry) (id : ℕ) → IsRun w history → draws_noted history id ≡ draws_to w (events_noted history) id
noted_so w [] id run = refl
noted_so w (e ∷ history) id run =
    ap (λ (r : Reply). of_client e.event id (draws_of (r ∷ [])) ++ draws_noted history id) run.0
    ∙ ap (λ (xs : List Call). of_client e.event id (draws_of (reply_to w e.event ∷ [])) ++ xs) (noted_so (world_after w e.event) history id run.1)

reply_so : (w : World) (before after : List Entry) (e : Entry) → IsRun w (before ++ e ∷ after)
    → e.reply ≡ reply_to (world_after_all w (events_noted before)) e.event
reply_so w [] after e run = run.0
reply_so w (x ∷ before) after e run = reply_so (world_after w x.event) before after e run.1

pub lawful_histories : ((settings : Settings) (lists : Lists) (events : List Event) (event : Event) → IsLawful settings lists events event)
    → ((settings : Settings) (lists : Lists) (events : List Event) (id : ℕ) → DrawsAreStretches settings lists events id)
    → ((settings : Settings) (lists : Lists) (events : List Event) (id : ℕ) → DrawsAreCut settings lists events id)
    → ((settings : Settings) (lists : Lists) (events : List Event) → NobodyDelivers settings lists events) → HistoriesAreLawful
lawful_histories lawful stretches cut nobody settings lists history run = record {
  replies = λ before after e parts. reply_so (opening settings lists) before after e (subst (IsRun (opening settings lists)) parts run);
  lawful = λ before after e parts. lawful settings lists (events_noted before) e.event;
  slices = λ id.
      let w = opening settings lists in
      subst (λ (draws : List Call). AreStretches (delivered w (events_noted history)) (sittings w (events_noted history) id) (sound_of_calls draws))
      (sym (noted_so w history id run)) (stretches settings lists (events_noted history) id);
  cut = cut settings lists (events_noted history);
  nobody = nobody settings lists (events_noted history);
}
