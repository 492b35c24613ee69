-- Who is there after a call.
use Rattle.std.proofs.Common.{◌≡◌, ◌≤◌, ◌<◌, ◌+◌, ℕ, Bool, true, List, [], ◌∷◌, ◌++◌, Option, None, Some, length, refl, sym, ap, ◌∙◌}
use Rattle.std.proofs.Common.{arith, length-append}
use Rattle.radio_book.proofs.Words.{remove, Event, Arrive, RelayUp, Push, Title, Draw, Reply, is_part_event, ReceiptOf}
use Rattle.std.proofs.lemmas.Bool.{false≢true}
use Rattle.std.proofs.lemmas.Grind.{common_steps}
use Rattle.std.proofs.lemmas.List.Quantifiers.{position-Some}
use Rattle.radio_events.specs.declared.reply.Reply.TheVariants.{Arrived}
use Rattle.radio_book.specs.declared.newcomer.Newcomer.{Newcomer}
use Rattle.radio_book.specs.declared.newcomer.Newcomer.TheVariants.{Client, Relay}
use Rattle.radio_book.specs.Newcomers.{present_after, present_from, present_of, present_by, is_arrival, is_same, leaver_of, newcomer_by, with_newcomer}
use Rattle.radio_book.specs.Newcomers.{position_among, room_by, room_for, without_newcomer}

present_from_more : (ids : List Newcomer) (stamps : List ReceiptOf) (s : ReceiptOf)
    → present_from ids (stamps ++ s ∷ []) ≡ present_after (present_from ids stamps) s.event s.reply
present_from_more ids [] s = refl
present_from_more ids (x ∷ stamps) s = present_from_more (present_after ids x.event x.reply) stamps s

pub present_of_more : (stamps : List ReceiptOf) (s : ReceiptOf) → present_of (stamps ++ s ∷ []) ≡ present_after (present_of stamps) s.event s.reply
present_of_more stamps s = present_from_more [] stamps s

pub length-remove : (ids : List Newcomer) (i : ℕ) → i < length ids → length (remove ids i) + 1 ≡ length ids
length-remove ids i is = grind (arith, common_steps)

enough_for_newcomer : (event : Event) (reply : Reply) (ids : List Newcomer)
    → length (with_newcomer (newcomer_by event reply) ids) + 1 ≤ length ids + room_by None (is_arrival event) ids
enough_for_newcomer (Arrive peer) (Arrived id) ids = omega (arith, length-append ids (Client id ∷ []))
enough_for_newcomer (Arrive peer) reply ids = omega arith
enough_for_newcomer (RelayUp mount shown) (Arrived id) ids = omega (arith, length-append ids (Relay id ∷ []))
enough_for_newcomer (RelayUp mount shown) reply ids = omega arith
enough_for_newcomer event reply ids = omega arith

enough_for_leaver : (gone : Newcomer) (came : Bool) (ids : List Newcomer) (place : Option ℕ) → position_among gone ids ≡ place
    → length (without_newcomer (position_among gone ids) ids) + 1 ≤ length ids + room_by (Some gone) came ids
enough_for_leaver gone came ids None at = rw at (omega arith)
enough_for_leaver gone came ids (Some i) at =
    let here = position-Some (λ other. is_same gone other) ids i gone at in rw at (omega (arith, length-remove ids i here.0))

-- room for the event, and for the end of a client or relay that it may let in, is room for those present afterwards
pub enough : (leaver : Option Newcomer) (event : Event) (reply : Reply) (ids : List Newcomer)
    → length (present_by leaver (newcomer_by event reply) ids) + 1 ≤ length ids + room_by leaver (is_arrival event) ids
enough None event reply ids = enough_for_newcomer event reply ids
enough (Some gone) event reply ids = enough_for_leaver gone (is_arrival event) ids (position_among gone ids) refl

stays_by_own : (ids : List Newcomer) (event : Event) (reply : Reply) → is_part_event event ≡ true → present_after ids event reply ≡ ids
stays_by_own ids (Push id block) reply own = refl
stays_by_own ids (Title id text) reply own = refl
stays_by_own ids (Draw id room) reply own = refl
stays_by_own ids event reply own = absurd (false≢true own)

-- a block, a title or a draw lets nobody in and ends nobody
pub own_noted : (stamps stamps' : List ReceiptOf) (s : ReceiptOf) (ids : List Newcomer) → ids ≡ present_of stamps → stamps' ≡ stamps ++ s ∷ []
    → is_part_event s.event ≡ true → ids ≡ present_of stamps'
own_noted stamps stamps' s ids here more own =
    here ∙ sym (ap present_of more ∙ present_of_more stamps s ∙ stays_by_own (present_of stamps) s.event s.reply own)

-- the clients and relays present after a call whose receipt is added
pub noted : (stamps stamps' : List ReceiptOf) (s : ReceiptOf) (ids ids' : List Newcomer) (leaver newcomer : Option Newcomer)
    → ids ≡ present_of stamps → stamps' ≡ stamps ++ s ∷ []
    → leaver ≡ leaver_of s.event → newcomer ≡ newcomer_by s.event s.reply → ids' ≡ present_by leaver newcomer ids → ids' ≡ present_of stamps'
noted stamps stamps' s ids ids' leaver newcomer here more leaves comes are =
    are ∙ ap (λ (x : Option Newcomer). present_by x newcomer ids) leaves ∙ ap (λ (x : Option Newcomer). present_by (leaver_of s.event) x ids) comes
    ∙ ap (λ (x : List Newcomer). present_by (leaver_of s.event) (newcomer_by s.event s.reply) x) here
    ∙ sym (ap present_of more ∙ present_of_more stamps s)

pub enough_noted : (s : ReceiptOf) (ids ids' : List Newcomer) (leaver newcomer : Option Newcomer)
    → leaver ≡ leaver_of s.event → newcomer ≡ newcomer_by s.event s.reply → ids' ≡ present_by leaver newcomer ids
    → length ids' + 1 ≤ length ids + room_for ids s.event
enough_noted s ids ids' leaver newcomer leaves comes are = rw (are, leaves, comes) (enough (leaver_of s.event) s.event s.reply ids)

arrival_room_by : (ids : List Newcomer) (event : Event) → is_arrival event ≡ true → room_for ids event ≡ 2
arrival_room_by ids (Arrive peer) is = refl
arrival_room_by ids (RelayUp mount shown) is = refl
arrival_room_by ids event is = absurd (false≢true is)

-- an arrival needs room for its end too
pub arrival_room : (ids : List Newcomer) (event same : Event) → same ≡ event → is_arrival same ≡ true → room_for ids event ≡ 2
arrival_room ids event same eq is = arrival_room_by ids event (sym (ap is_arrival eq) ∙ is)
