-- What has happened on the connection of one label: events, and the replies to them.
use Rattle.std.proofs.Common.{◌≡◌, ℕ, ◌==◌, Bool, true, false, List, [], ◌∷◌, ◌++◌, refl, sym, ap, ◌∙◌, arith, append_assoc}
use Rattle.radio_headline.proofs.Words.{if◌then◌else◌, map, AllByRecursion, nat_tests, map-append, Entry, Event, Reply, world_after_all, world_after, World, Happening, applied_entry, entry_on, events_in, log_on, on}

-- events, with the replies to them
abbrev pub entries : World → List Event → List Entry
entries w [] = []
entries w (event ∷ events) = applied_entry w event ∷ entries (world_after w event) events

abbrev pub replies : List Entry → List Reply
replies log = map (λ e. e.reply) log

pub itself : (n : ℕ) → (n == n) ≡ true
itself n = grind (arith, nat_tests)

pub other_number : (n m : ℕ) → (n ≡ m → ⊥) → (n == m) ≡ false
other_number n m apart = either (n == m) refl where
  either : (b : Bool) → (n == m) ≡ b → (n == m) ≡ false
  either true e = absurd (apart (grind (arith, nat_tests)))
  either false e = e

pub after_joined : (w : World) (events more : List Event) → world_after_all w (events ++ more) ≡ world_after_all (world_after_all w events) more
after_joined w [] more = refl
after_joined w (event ∷ events) more = after_joined (world_after w event) events more

pub events_joined : (past more : List Happening) → events_in (past ++ more) ≡ events_in past ++ events_in more
events_joined past more = map-append (λ (h : Happening). h.event) past more

pub events_on : (label : ℕ) (events : List Event) → events_in (map (on label) events) ≡ events
events_on label [] = refl
events_on label (event ∷ events) = ap (λ (xs : List Event). event ∷ xs) (events_on label events)

pub log_joined : (w : World) (past more : List Happening) (label : ℕ)
    → log_on w (past ++ more) label ≡ log_on w past label ++ log_on (world_after_all w (events_in past)) more label
log_joined w [] more label = refl
log_joined w (h ∷ past) more label =
    ap (λ (xs : List Entry). entry_on w h label ++ xs) (log_joined (world_after w h.event) past more label)
    ∙ sym (append_assoc (entry_on w h label) (log_on (world_after w h.event) past label)
    (log_on (world_after_all (world_after w h.event) (events_in past)) more label))

-- the log, split at the event that was applied on the label
pub log_parted : (w : World) (past later : List Happening) (label : ℕ) (event : Event) → log_on w (past ++ on label event ∷ later) label
    ≡ log_on w past label ++ applied_entry (world_after_all w (events_in past)) event ∷ log_on (world_after (world_after_all w (events_in past)) event) later label
log_parted w past later label event =
    let now = world_after_all w (events_in past) in
    log_joined w past (on label event ∷ later) label
    ∙ ap (λ (b : Bool). log_on w past label ++ ((if b then applied_entry now event ∷ [] else []) ++ log_on (world_after now event) later label)) (itself label)

pub log_here : (w : World) (label : ℕ) (events : List Event) → log_on w (map (on label) events) label ≡ entries w events
log_here w label [] = refl
log_here w label (event ∷ events) =
    ap (λ (b : Bool). (if b then applied_entry w event ∷ [] else []) ++ log_on (world_after w event) (map (on label) events) label) (itself label)
    ∙ ap (λ (xs : List Entry). applied_entry w event ∷ xs) (log_here (world_after w event) label events)

pub log_elsewhere : (w : World) (label other : ℕ) (events : List Event) → (label ≡ other → ⊥) → log_on w (map (on label) events) other ≡ []
log_elsewhere w label other [] apart = refl
log_elsewhere w label other (event ∷ events) apart =
    ap (λ (b : Bool). (if b then applied_entry w event ∷ [] else []) ++ log_on (world_after w event) (map (on label) events) other) (other_number label other apart)
    ∙ log_elsewhere (world_after w event) label other events apart

pub entries_joined : (w : World) (events more : List Event) → entries w (events ++ more) ≡ entries w events ++ entries (world_after_all w events) more
entries_joined w [] more = refl
entries_joined w (event ∷ events) more = ap (λ (xs : List Entry). applied_entry w event ∷ xs) (entries_joined (world_after w event) events more)

pub replies_joined : (log more : List Entry) → replies (log ++ more) ≡ replies log ++ replies more
replies_joined log more = map-append (λ (e : Entry). e.reply) log more

-- each of them
abbrev pub Each : (Entry → Type 0) → List Entry → Type 0
Each P log = AllByRecursion P log

pub each_joined : (P : Entry → Type 0) (log more : List Entry) → Each P log → Each P more → Each P (log ++ more)
each_joined P [] more h k = k
each_joined P (e ∷ log) more h k = (h.0, each_joined P log more h.1 k)

pub each_as : (P Q : Entry → Type 0) → ((e : Entry) → P e → Q e) → (log : List Entry) → Each P log → Each Q log
each_as P Q f [] h = tt
each_as P Q f (e ∷ log) h = (f e h.0, each_as P Q f log h.1)

pub each_first : (P : Entry → Type 0) (log more : List Entry) → Each P (log ++ more) → Each P log
each_first P [] more h = tt
each_first P (e ∷ log) more h = (h.0, each_first P log more h.1)

pub each_second : (P : Entry → Type 0) (log more : List Entry) → Each P (log ++ more) → Each P more
each_second P [] more h = h
each_second P (e ∷ log) more h = each_second P log more h.1
