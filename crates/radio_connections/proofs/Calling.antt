-- Calls of lines, counted on.
use Rattle.std.proofs.Common.{◌≡◌, ◌+◌, ◌<◌, ◌≤◌, ◌⊎◌, inl, inr, ℕ, suc, Bool, true, false, List, [], ◌++◌, length, take, drop, refl, ap, sym, subst, ◌∙◌}
use Rattle.std.proofs.Common.{append_assoc, append-nil, lt_irrefl, arith}
use Rattle.std.proofs.lemmas.List.{take-append-drop}
use Rattle.radio_events.specs.declared.event.Event.{Event}
use Rattle.radio_session.specs.Exchanges.{is_leave}
use Rattle.radio_session.specs.Conversation.{Conversation}
use Rattle.radio_connections.specs.declared.line.Received.{Received}
use Rattle.radio_connections.specs.declared.line.Received.TheVariants.{Bytes, Nothing, Closed as HasClosed, Fault}
use Rattle.radio_connections.specs.declared.line.Sent.{Sent}
use Rattle.radio_connections.specs.declared.line.Sent.TheVariants.{Took, Nothing as TakesNothing, Fault as HasBroken}
use Rattle.radio_connections.specs.Lines.{Calls, calls_after_read, after_write}
use Rattle.radio_connections.specs.Connections.{Connection, Refused, refused_one, one_refusal}
use Rattle.radio_connections.specs.Duties.{IsLater, LineIsUnread, IsReadOnce, LacksMemory, HasEnded}

-- its line was not called
pub later_same : {c c' : Connection} → c'.calls ≡ c.calls → c'.taken ≡ c.taken → c'.refused ≡ c.refused → IsLater c c'
later_same {c} {c'} calls taken refused = record {
  reads = omega (arith, ap (λ (x : Calls). x.reads) calls);
  writes = omega (arith, ap (λ (x : Calls). x.writes) calls);
  faults = omega (arith, ap (λ (x : Calls). x.faults) calls);
  closings = omega (arith, ap (λ (x : Calls). x.closings) calls);
  refused = omega (arith, ap (λ (x : Refused). x.events) refused);
  leavings = omega (arith, ap (λ (x : Refused). x.leavings) refused);
  taken = ([], taken ∙ sym (append-nil c.taken));
}

pub later_none : (c : Connection) → IsLater c c
later_none c = later_same refl refl refl

pub later_then : (a b c : Connection) → IsLater a b → IsLater b c → IsLater a c
later_then a b c f g = record {
  reads = omega (arith, f.reads, g.reads);
  writes = omega (arith, f.writes, g.writes);
  faults = omega (arith, f.faults, g.faults);
  closings = omega (arith, f.closings, g.closings);
  refused = omega (arith, f.refused, g.refused);
  leavings = omega (arith, f.leavings, g.leavings);
  taken = (f.taken.0 ++ g.taken.0, g.taken.1 ∙ ap (λ (xs : List ℕ). xs ++ g.taken.0) f.taken.1 ∙ append_assoc a.taken f.taken.0 g.taken.0);
}

-- one of its events was refused
one_more : (leaves : Bool) (r : Refused) → (refused_one leaves r).events ≡ suc r.events
one_more true r = refl
one_more false r = refl

no_less : (leaves : Bool) (r : Refused) → r.leavings ≤ (refused_one leaves r).leavings
no_less true r = omega arith
no_less false r = omega arith

pub later_by_refusal : {c c' : Connection} (event : Event) → c'.calls ≡ c.calls → c'.taken ≡ c.taken → c'.refused ≡ one_refusal event c.refused → IsLater c c'
later_by_refusal {c} {c'} event calls taken refused = record {
  reads = omega (arith, ap (λ (x : Calls). x.reads) calls);
  writes = omega (arith, ap (λ (x : Calls). x.writes) calls);
  faults = omega (arith, ap (λ (x : Calls). x.faults) calls);
  closings = omega (arith, ap (λ (x : Calls). x.closings) calls);
  refused = omega (arith, ap (λ (x : Refused). x.events) refused, one_more (is_leave event) c.refused);
  leavings = omega (arith, ap (λ (x : Refused). x.leavings) refused, no_less (is_leave event) c.refused);
  taken = ([], taken ∙ sym (append-nil c.taken));
}

pub more_refused : (event : Event) (before after : Refused) → after ≡ one_refusal event before → before.events < after.events
more_refused event before after refused = omega (arith, ap (λ (x : Refused). x.events) refused, one_more (is_leave event) before)

-- a connection that lacked memory at first lacks it after more calls too
pub lacks_on : (a b c d : Connection) → a.refused.events ≤ b.refused.events → c.refused.events ≤ d.refused.events → d.session ≡ c.session → LacksMemory b c
    → LacksMemory a d
lacks_on a b c d before behind session (inl failed) = inl (ap (λ (s : Conversation). s.has_failed) session ∙ failed)
lacks_on a b c d before behind session (inr more) = inr (omega (arith, before, behind, more))

pub ended_on : (a b c d : Connection) → IsLater a b → IsLater c d → HasEnded b c → HasEnded a d
ended_on a b c d before behind (inl more) = inl (omega (arith, before.closings, behind.closings, more))
ended_on a b c d before behind (inr more) = inr (omega (arith, before.faults, behind.faults, more))

reads_after : (answer : Received) (room : ℕ) (calls : Calls) → (calls_after_read answer room calls).reads ≡ suc calls.reads
reads_after (Bytes n) room calls = refl
reads_after Nothing room calls = refl
reads_after HasClosed room calls = refl
reads_after Fault room calls = refl

room_after : (answer : Received) (room : ℕ) (calls : Calls) → (calls_after_read answer room calls).room ≡ calls.room + room
room_after (Bytes n) room calls = refl
room_after Nothing room calls = refl
room_after HasClosed room calls = refl
room_after Fault room calls = refl

writes_kept : (answer : Received) (room : ℕ) (calls : Calls) → (calls_after_read answer room calls).writes ≡ calls.writes
writes_kept (Bytes n) room calls = refl
writes_kept Nothing room calls = refl
writes_kept HasClosed room calls = refl
writes_kept Fault room calls = refl

faults_by_read : (answer : Received) (room : ℕ) (calls : Calls) → calls.faults ≤ (calls_after_read answer room calls).faults
faults_by_read (Bytes n) room calls = omega arith
faults_by_read Nothing room calls = omega arith
faults_by_read HasClosed room calls = omega arith
faults_by_read Fault room calls = omega arith

closings_by_read : (answer : Received) (room : ℕ) (calls : Calls) → calls.closings ≤ (calls_after_read answer room calls).closings
closings_by_read (Bytes n) room calls = omega arith
closings_by_read Nothing room calls = omega arith
closings_by_read HasClosed room calls = omega arith
closings_by_read Fault room calls = omega arith

pub unread_by : (answer : Sent) (calls : Calls) → ((after_write answer calls).reads ≡ calls.reads) × ((after_write answer calls).room ≡ calls.room)
unread_by (Took n) calls = (refl, refl)
unread_by TakesNothing calls = (refl, refl)
unread_by HasBroken calls = (refl, refl)

pub writes_after : (answer : Sent) (calls : Calls) → (after_write answer calls).writes ≡ suc calls.writes
writes_after (Took n) calls = refl
writes_after TakesNothing calls = refl
writes_after HasBroken calls = refl

faults_by_write : (answer : Sent) (calls : Calls) → calls.faults ≤ (after_write answer calls).faults
faults_by_write (Took n) calls = omega arith
faults_by_write TakesNothing calls = omega arith
faults_by_write HasBroken calls = omega arith

closings_kept : (answer : Sent) (calls : Calls) → (after_write answer calls).closings ≡ calls.closings
closings_kept (Took n) calls = refl
closings_kept TakesNothing calls = refl
closings_kept HasBroken calls = refl

-- its line was read from
pub later_by_read : {c c' : Connection} (answer : Received) (room : ℕ) → c'.calls ≡ calls_after_read answer room c.calls → c'.taken ≡ c.taken
    → c'.refused ≡ c.refused → IsLater c c'
later_by_read {c} {c'} answer room calls taken refused = record {
  reads = omega (arith, ap (λ (x : Calls). x.reads) calls, reads_after answer room c.calls);
  writes = omega (arith, ap (λ (x : Calls). x.writes) calls, writes_kept answer room c.calls);
  faults = omega (arith, ap (λ (x : Calls). x.faults) calls, faults_by_read answer room c.calls);
  closings = omega (arith, ap (λ (x : Calls). x.closings) calls, closings_by_read answer room c.calls);
  refused = omega (arith, ap (λ (x : Refused). x.events) refused);
  leavings = omega (arith, ap (λ (x : Refused). x.leavings) refused);
  taken = ([], taken ∙ sym (append-nil c.taken));
}

-- or written to
pub later_by_write : {c c' : Connection} (answer : Sent) (part : List ℕ) → c'.calls ≡ after_write answer c.calls → c'.taken ≡ c.taken ++ part
    → c'.refused ≡ c.refused → IsLater c c'
later_by_write {c} {c'} answer part calls taken refused = record {
  reads = omega (arith, ap (λ (x : Calls). x.reads) calls, (unread_by answer c.calls).0);
  writes = omega (arith, ap (λ (x : Calls). x.writes) calls, writes_after answer c.calls);
  faults = omega (arith, ap (λ (x : Calls). x.faults) calls, faults_by_write answer c.calls);
  closings = omega (arith, ap (λ (x : Calls). x.closings) calls, closings_kept answer c.calls);
  refused = omega (arith, ap (λ (x : Refused). x.events) refused);
  leavings = omega (arith, ap (λ (x : Refused). x.leavings) refused);
  taken = (part, taken);
}

-- a write is one more, and no read
pub written_once : (before after : Calls) (answer : Sent) → after ≡ after_write answer before → before.writes < after.writes
written_once before after answer calls = omega (arith, ap (λ (x : Calls). x.writes) calls, writes_after answer before)

pub unread_by_write : {c c' : Connection} (answer : Sent) → c'.calls ≡ after_write answer c.calls → LineIsUnread c c'
unread_by_write {c} {c'} answer calls = record {
  reads = ap (λ (x : Calls). x.reads) calls ∙ (unread_by answer c.calls).0;
  room = ap (λ (x : Calls). x.room) calls ∙ (unread_by answer c.calls).1;
}

-- one that was not called was not read from
pub unread_same : {c c' : Connection} → c'.calls ≡ c.calls → LineIsUnread c c'
unread_same {c} {c'} calls = record { reads = ap (λ (x : Calls). x.reads) calls; room = ap (λ (x : Calls). x.room) calls }

pub unread_then : (a b c : Connection) → LineIsUnread a b → LineIsUnread b c → LineIsUnread a c
unread_then a b c f g = record { reads = g.reads ∙ f.reads; room = g.room ∙ f.room }

-- one read, before and behind which it is not read from
pub once_between : (a b c d : Connection) → LineIsUnread a b → IsReadOnce b c → LineIsUnread c d → IsReadOnce a d
once_between a b c d f read g = record {
  reads = g.reads ∙ read.reads ∙ ap suc f.reads;
  room = g.room ∙ read.room ∙ ap (λ n. n + 16384) f.room;
}

pub once_at_most : (a b c d : Connection) → LineIsUnread a b → LineIsUnread b c ⊎ IsReadOnce b c → LineIsUnread c d → LineIsUnread a d ⊎ IsReadOnce a d
once_at_most a b c d f (inl none) g = inl (unread_then a c d (unread_then a b c f none) g)
once_at_most a b c d f (inr read) g = inr (once_between a b c d f read g)

-- if nothing is left, all was taken
pub taken_all : (n : ℕ) (outgoing : List ℕ) → drop n outgoing ≡ [] → take n outgoing ≡ outgoing
taken_all n outgoing none = sym (append-nil (take n outgoing)) ∙ ap (λ (xs : List ℕ). take n outgoing ++ xs) (sym none) ∙ take-append-drop n outgoing

pub none_of_some : {outgoing : List ℕ} → 0 < length outgoing → outgoing ≡ [] → ⊥
none_of_some {outgoing} some none = lt_irrefl 0 (subst (λ (xs : List ℕ). 0 < length xs) none some)

-- one that was read from was read from once, with the room of a turn
pub read_by : {a c : Connection} {room : ℕ} (answer : Received) → c.calls ≡ calls_after_read answer room a.calls → room ≡ 16384 → IsReadOnce a c
read_by {a} {c} {room} answer calls full = record {
  reads = ap (λ (x : Calls). x.reads) calls ∙ reads_after answer room a.calls;
  room = ap (λ (x : Calls). x.room) calls ∙ room_after answer room a.calls ∙ ap (λ n. a.calls.room + n) full;
}

pub read_once_as : {a b c : Connection} → a ≡ b → IsReadOnce a c → IsReadOnce b c
read_once_as {a} {b} {c} e = subst (λ (o : Connection). IsReadOnce o c) e
