-- The draws of a listener hold the data that it gets.
use Rattle.std.proofs.Common.{◌≡◌, ℕ, Bool, true, false, cond, List, [], ◌∷◌, ◌++◌, refl, sym, ap, subst, ◌∙◌, append-nil, append_assoc}
use Rattle.radio_headline.proofs.Words.{map, flat_map-append, Settings, Lists, Event, Reply, Arrived, Feeding, Seated, Drawn, Noted, Text, Deny, Finished, Stray, data_in, is_same_number, of_client, handed, handed_at}
use Rattle.radio_headline.proofs.Words.{delivered, reply_to, world_after, seat_of, AreSlices, AreStretches, Cut, Sitting, StretchesAreCut, StretchesAreWhole, begun_sittings, cut_at_sittings, cut_behind, sittings}
use Rattle.radio_headline.proofs.Words.{client_in, World, opening, Call, sound_of_calls, draws_of, draw_to, draws_to, DrawsAreCut, DrawsAreStretches}
use Rattle.std.specs.Prelude.{flat_map}

-- a draw holds the data of its reply, and no other reply has any
data_drawn : (reply : Reply) → sound_of_calls (draws_of (reply ∷ [])) ≡ data_in reply
data_drawn (Drawn bytes title) = append-nil bytes
data_drawn (Arrived id) = refl
data_drawn Feeding = refl
data_drawn (Seated interval shown) = refl
data_drawn Noted = refl
data_drawn (Text text) = refl
data_drawn (Deny rule) = refl
data_drawn (Finished rule) = refl
data_drawn Stray = refl

drawn_if : (his : Bool) (reply : Reply) → sound_of_calls (cond his (draws_of (reply ∷ [])) []) ≡ cond his (data_in reply) []
drawn_if true reply = data_drawn reply
drawn_if false reply = refl

handed_in_draws : (w : World) (events : List Event) (id : ℕ) → sound_of_calls (draws_to w events id) ≡ handed w events id
handed_in_draws w [] id = refl
handed_in_draws w (event ∷ events) id =
    let later = world_after w event in
    flat_map-append (λ (c : Call). c.sound) (of_client event id (draws_of (reply_to w event ∷ []))) (draws_to later events id)
    ∙ ap (λ (xs : List ℕ). xs ++ sound_of_calls (draws_to later events id)) (drawn_if (is_same_number id (client_in event)) (reply_to w event))
    ∙ ap (λ (xs : List ℕ). of_client event id (data_in (reply_to w event)) ++ xs) (handed_in_draws later events id)

pub draws_are_stretches : (settings : Settings) (lists : Lists) (events : List Event) → StretchesAreWhole settings lists events
    → (id : ℕ) → DrawsAreStretches settings lists events id
draws_are_stretches settings lists events whole id =
    let w = opening settings lists in
    subst (λ (bytes : List ℕ). AreStretches (delivered w events) (sittings w events id) bytes) (sym (handed_in_draws w events id)) (whole id)

-- the data of draws that are cut
abbrev HoldIt : Cut Call → Cut ℕ → Type 0
HoldIt draws heard = (sound_of_calls draws.before ≡ heard.before) × (map sound_of_calls draws.each ≡ heard.each)

hold_behind : (draws : List Call) (bytes : List ℕ) (begun : List Sitting) (later : Cut Call) (heard : Cut ℕ) → sound_of_calls draws ≡ bytes → HoldIt later heard
    → HoldIt (cut_behind draws begun later) (cut_behind bytes begun heard)
hold_behind draws bytes [] later heard e h = (
  flat_map-append (λ (c : Call). c.sound) draws later.before ∙ ap (λ (xs : List ℕ). xs ++ sound_of_calls later.before) e
      ∙ ap (λ (xs : List ℕ). bytes ++ xs) h.0,
  h.1,
)
hold_behind draws bytes (sitting ∷ others) later heard e h =
    (e, ap (λ (xs : List ℕ). xs ∷ map sound_of_calls later.each) h.0 ∙ ap (λ (xs : List (List ℕ)). heard.before ∷ xs) h.1)

hold_it : (w : World) (events : List Event) (id : ℕ)
    → HoldIt (cut_at_sittings (draw_to id) w events id) (cut_at_sittings (λ v event. handed_at v event id) w events id)
hold_it w [] id = (refl, refl)
hold_it w (event ∷ events) id =
    let later = world_after w event in
    hold_behind (draw_to id w event) (handed_at w event id) (begun_sittings (seat_of w.seats id) (seat_of later.seats id))
    (cut_at_sittings (draw_to id) later events id) (cut_at_sittings (λ v other. handed_at v other id) later events id)
    (drawn_if (is_same_number id (client_in event)) (reply_to w event)) (hold_it later events id)

-- joined in order they are all
joined_behind : (draws : List Call) (begun : List Sitting) (later : Cut Call)
    → (cut_behind draws begun later).before ++ flat_map (λ xs. xs) (cut_behind draws begun later).each
    ≡ draws ++ (later.before ++ flat_map (λ xs. xs) later.each)
joined_behind draws [] later = append_assoc draws later.before (flat_map (λ xs. xs) later.each)
joined_behind draws (sitting ∷ others) later = refl

all_joined : (w : World) (events : List Event) (id : ℕ)
    → (cut_at_sittings (draw_to id) w events id).before ++ flat_map (λ draws. draws) (cut_at_sittings (draw_to id) w events id).each ≡ draws_to w events id
all_joined w [] id = refl
all_joined w (event ∷ events) id =
    let later = world_after w event in
    joined_behind (draw_to id w event) (begun_sittings (seat_of w.seats id) (seat_of later.seats id)) (cut_at_sittings (draw_to id) later events id)
    ∙ ap (λ (xs : List Call). draw_to id w event ++ xs) (all_joined later events id)

pub draws_are_cut : (settings : Settings) (lists : Lists) (events : List Event) → StretchesAreCut settings lists events → (id : ℕ)
    → DrawsAreCut settings lists events id
draws_are_cut settings lists events whole id =
    let w = opening settings lists in
    let holds = hold_it w events id in
    (holds.0 ∙ (whole id).0, subst (AreSlices (delivered w events) (sittings w events id)) (sym holds.1) (whole id).1, all_joined w events id)
