-- What the record of a connection has after a list of happenings, from whatever it had before.
use Rattle.std.proofs.Common.{◌≡◌, ℕ, ◌+◌, ◌-◌, ◌^◌, ◌≤◌, Bool, true, false, ◌||◌, List, [], ◌∷◌, Option, None, Some, refl, ap, sym, ◌∙◌, arith, fold, sum_by, zero-add}
use Rattle.std.proofs.lemmas.Bool.Decides.{nat_tests}
use Rattle.std.proofs.lemmas.List.Sums.{sum_by-cons}
use Rattle.std.specs.List.{list_any}
use Rattle.radio_notes.specs.declared.ends.End.{End}
use Rattle.radio_notes.specs.declared.visit.Happening.{Happening}
use Rattle.radio_notes.specs.declared.visit.Happening.TheVariants.{Replied, Handed, Fed, Ended}
use Rattle.radio_notes.specs.declared.visit.Visit.{Visit}
use Rattle.radio_notes.specs.Counts.{capped}
use Rattle.radio_notes.specs.Ends.{code_of_end}
use Rattle.radio_notes.specs.Visits.{visit_after, first_of, first_end, reply_shows_station, status_of_note}
use Rattle.radio_notes.specs.Laws.{first_end_of, first_status_of, handed_in, fed_in, shows_station, last_part_of}

pub since : (v : Visit) (hs : List Happening) → (fold visit_after v hs).since_ms ≡ v.since_ms
since v [] = refl
since v (Replied reply_note ∷ hs) = since (visit_after v (Replied reply_note)) hs
since v (Handed count ∷ hs) = since (visit_after v (Handed count)) hs
since v (Fed count ∷ hs) = since (visit_after v (Fed count)) hs
since v (Ended end ∷ hs) = since (visit_after v (Ended end)) hs

-- an end, or else another
abbrev or_end : Option End → Option End → Option End
or_end None later = later
or_end (Some end) later = Some end

or_end-none : (o : Option End) → or_end o None ≡ o
or_end-none None = refl
or_end-none (Some end) = refl

or_end-first : (o : Option End) (end : End) (later : Option End) → or_end (first_end o end) later ≡ or_end o (Some end)
or_end-first None end later = refl
or_end-first (Some before) end later = refl

ends : (v : Visit) (hs : List Happening) → (fold visit_after v hs).end ≡ or_end v.end (first_end_of hs)
ends v [] = sym (or_end-none v.end)
ends v (Replied reply_note ∷ hs) = ends (visit_after v (Replied reply_note)) hs
ends v (Handed count ∷ hs) = ends (visit_after v (Handed count)) hs
ends v (Fed count ∷ hs) = ends (visit_after v (Fed count)) hs
ends v (Ended end ∷ hs) = ends (visit_after v (Ended end)) hs ∙ or_end-first v.end end (first_end_of hs)

pub end_of : (v : Visit) (hs : List Happening) → v.end ≡ None → (fold visit_after v hs).end ≡ first_end_of hs
end_of v hs none = ends v hs ∙ ap (λ (o : Option End). or_end o (first_end_of hs)) none

first_of-none : (a : ℕ) → first_of a 0 ≡ a
first_of-none a = grind (arith, nat_tests)

first_of-assoc : (a b c : ℕ) → first_of (first_of a b) c ≡ first_of a (first_of b c)
first_of-assoc a b c = grind (arith, nat_tests)

statuses : (v : Visit) (hs : List Happening) → (fold visit_after v hs).status ≡ first_of v.status (first_status_of hs)
statuses v [] = sym (first_of-none v.status)
statuses v (Replied reply_note ∷ hs) =
    statuses (visit_after v (Replied reply_note)) hs ∙ first_of-assoc v.status (status_of_note reply_note) (first_status_of hs)
statuses v (Handed count ∷ hs) = statuses (visit_after v (Handed count)) hs
statuses v (Fed count ∷ hs) = statuses (visit_after v (Fed count)) hs
statuses v (Ended end ∷ hs) =
    statuses (visit_after v (Ended end)) hs ∙ first_of-assoc v.status (code_of_end end) (first_status_of hs)

pub status_of : (v : Visit) (hs : List Happening) → v.status ≡ 0 → (fold visit_after v hs).status ≡ first_status_of hs
status_of v hs none = statuses v hs ∙ ap (λ (n : ℕ). first_of n (first_status_of hs)) none

capped-more : (a b c : ℕ) → capped (capped (a + b) + c) ≡ capped (a + (b + c))
capped-more a b c = omega arith

handeds : (v : Visit) (hs : List Happening) → v.handed ≤ 2 ^ 64 - 1 → (fold visit_after v hs).handed ≡ capped (v.handed + sum_by handed_in hs)
handeds v [] below = omega arith
handeds v (Replied reply_note ∷ hs) below = handeds (visit_after v (Replied reply_note)) hs below
handeds v (Handed count ∷ hs) below =
    handeds (visit_after v (Handed count)) hs (omega arith) ∙ capped-more v.handed count (sum_by handed_in hs)
    ∙ ap (λ (n : ℕ). capped (v.handed + n)) (sym (sum_by-cons handed_in (Handed count) hs))
handeds v (Fed count ∷ hs) below = handeds (visit_after v (Fed count)) hs below
handeds v (Ended end ∷ hs) below = handeds (visit_after v (Ended end)) hs below

pub handed_of : (v : Visit) (hs : List Happening) → v.handed ≡ 0 → (fold visit_after v hs).handed ≡ capped (sum_by handed_in hs)
handed_of v hs none = handeds v hs (omega arith) ∙ ap (λ (n : ℕ). capped (n + sum_by handed_in hs)) none ∙ ap capped (zero-add (sum_by handed_in hs))

feds : (v : Visit) (hs : List Happening) → v.fed ≤ 2 ^ 64 - 1 → (fold visit_after v hs).fed ≡ capped (v.fed + sum_by fed_in hs)
feds v [] below = omega arith
feds v (Replied reply_note ∷ hs) below = feds (visit_after v (Replied reply_note)) hs below
feds v (Handed count ∷ hs) below = feds (visit_after v (Handed count)) hs below
feds v (Fed count ∷ hs) below =
    feds (visit_after v (Fed count)) hs (omega arith) ∙ capped-more v.fed count (sum_by fed_in hs)
    ∙ ap (λ (n : ℕ). capped (v.fed + n)) (sym (sum_by-cons fed_in (Fed count) hs))
feds v (Ended end ∷ hs) below = feds (visit_after v (Ended end)) hs below

pub fed_of : (v : Visit) (hs : List Happening) → v.fed ≡ 0 → (fold visit_after v hs).fed ≡ capped (sum_by fed_in hs)
fed_of v hs none = feds v hs (omega arith) ∙ ap (λ (n : ℕ). capped (n + sum_by fed_in hs)) none ∙ ap capped (zero-add (sum_by fed_in hs))

or-moved : (a b c : Bool) → (a || b) || c ≡ b || (a || c)
or-moved true true c = refl
or-moved true false c = refl
or-moved false true c = refl
or-moved false false c = refl

or-none : (a : Bool) → a ≡ a || false
or-none true = refl
or-none false = refl

polls : (v : Visit) (hs : List Happening) → (fold visit_after v hs).is_poll ≡ (v.is_poll || list_any shows_station hs)
polls v [] = or-none v.is_poll
polls v (Replied reply_note ∷ hs) =
    polls (visit_after v (Replied reply_note)) hs ∙ or-moved (reply_shows_station reply_note) v.is_poll (list_any shows_station hs)
polls v (Handed count ∷ hs) = polls (visit_after v (Handed count)) hs
polls v (Fed count ∷ hs) = polls (visit_after v (Fed count)) hs
polls v (Ended end ∷ hs) = polls (visit_after v (Ended end)) hs

pub poll_of : (v : Visit) (hs : List Happening) → v.is_poll ≡ false → (fold visit_after v hs).is_poll ≡ list_any shows_station hs
poll_of v hs none = polls v hs ∙ ap (λ (b : Bool). b || list_any shows_station hs) none

pub part_of : (v : Visit) (hs : List Happening) → (fold visit_after v hs).part ≡ last_part_of v.part hs
part_of v [] = refl
part_of v (Replied reply_note ∷ hs) = part_of (visit_after v (Replied reply_note)) hs
part_of v (Handed count ∷ hs) = part_of (visit_after v (Handed count)) hs
part_of v (Fed count ∷ hs) = part_of (visit_after v (Fed count)) hs
part_of v (Ended end ∷ hs) = part_of (visit_after v (Ended end)) hs
