-- What an event can be replied.
use Rattle.std.proofs.Common.{◌≡◌, ◌⊎◌, ℕ, ◌+◌, inl, inr, List, [], Option, refl, sym, ap, subst, ◌∙◌}
use Rattle.radio_headline.proofs.Words.{Rule, Event, Arrive, Source, Push, SourceEnd, Title, Listen, Draw, Command, Leave, RelayUp, RelayDown, Clock, ListenRequest, Reply, Arrived, Seated, Drawn, Noted, Text, Deny}
use Rattle.radio_headline.proofs.Words.{Finished, Stray, StreamHead, Verdict, Allow, verdict_in, Outcome, Standing, rows_to_push, if_feeding, on_verdict, Feeds, Sits, block_in, IsListing, IsAtPath, outcome, reply_to}
use Rattle.radio_headline.proofs.Words.{world_after, Shown, Way, Misplaced, IsDenied, IsRefused, IsAdmitted, Begins, Receives, SetsTitle, TakesSeat, HandsOut, Ends, EndsAndLeaves, Obeys, Shows, HasPassed, Ticks, World}
use Rattle.radio_headline.proofs.Words.{standing_of, pushed_by}
use Rattle.radio_events.specs.declared.text.ReplyText.{ReplyText as CommandText}
use Rattle.radio_policy.specs.declared.judgement.Verdict.TheVariants.{Deny as Denied}
use Rattle.radio_parts_changes.specs.declared.change.Change.TheVariants.{Nothing}
use Rattle.radio_parts.specs.Push.{takes_in}
use Rattle.radio_parts.specs.Closing.{OfClient, OfRelay}
use Rattle.radio_parts_changes.specs.Changes.{changed}
use Rattle.radio_parts.specs.Ways.{IsFinished, ComesUp}
use Rattle.radio_parts.specs.Ways.{Leaves, GoesDown}
use Rattle.radio_parts.proofs.Ways.{way_of}

-- the block that was noted
abbrev pub noted_block : Reply → Event → List ℕ
noted_block Noted event = pushed_by event
noted_block reply event = []

record Forms (w : World) (event : Event) (o : Outcome) : Type 0 where
  pub next : (id : ℕ) → o.reply ≡ Arrived id → w.station.last_id + 1 ≡ id
  pub brings : block_in o.change ≡ noted_block o.reply event

forms_by : (w : World) (event : Event) (o : Outcome) → Way w event o → Forms w event o
forms_by w event o (IsAdmitted peer allowed) = record { next = λ id d. cc; brings = refl }
forms_by w event o (ComesUp mount shown none allowed) = record { next = λ id d. cc; brings = refl }
forms_by w event o (Begins asked undecided none allowed) = record { next = λ id d. cc; brings = refl }
forms_by w event o (TakesSeat asked peer session undecided lands live allowed) = record { next = λ id d. cc; brings = refl }
forms_by w event o (Misplaced _) = record { next = λ id d. cc; brings = refl }
forms_by w event o (IsFinished _ him by its known) = record { next = λ id d. cc; brings = refl }
forms_by w event o (IsDenied _ by v nobody) = record { next = λ id d. cc; brings = refl }
forms_by w event o (IsRefused _ him by v its undecided) = record { next = λ id d. cc; brings = refl }
forms_by w event o (Receives him mount block feeding) = record { next = λ id d. cc; brings = refl }
forms_by w event o (SetsTitle him mount text feeding) = record { next = λ id d. cc; brings = refl }
forms_by w event o (Shows _ asker peer text its undecided what) = record { next = λ id d. cc; brings = refl }
forms_by w event o (Obeys _ command c) = record { next = λ id d. cc; brings = refl }
forms_by w event o (HasPassed ms e) = record { next = λ id d. cc; brings = refl }
forms_by w event o (Ticks ms e) = record { next = λ id d. cc; brings = refl }
forms_by w event o (HandsOut him room seat session sits has live) = record { next = λ id d. cc; brings = refl }
forms_by w event o (Ends him mount feeding no_relay) = record { next = λ id d. cc; brings = refl }
forms_by w event o (EndsAndLeaves _ him mount (OfClient no_relay) feeding) = record { next = λ id d. cc; brings = refl }
forms_by w event o (EndsAndLeaves _ him mount (OfRelay relay) feeding) = record { next = λ id d. cc; brings = refl }
forms_by w event o (Leaves him no_relay other) = record { next = λ id d. cc; brings = refl }
forms_by w event o (GoesDown him rule relay told) = record { next = λ id d. cc; brings = refl }

-- numbers are given one after another
pub next_number : (w : World) (event : Event) (id : ℕ) → reply_to w event ≡ Arrived id → w.station.last_id + 1 ≡ id
unfolding reply_to
next_number w event id d = (forms_by w event (outcome w event) (way_of w event)).next id d

-- a block that is noted is brought, and nothing else is
pub brings_noted : (w : World) (event : Event) → block_in (outcome w event).change ≡ noted_block (reply_to w event) event
unfolding reply_to
brings_noted w event = (forms_by w event (outcome w event) (way_of w event)).brings

-- the replies to a request to listen to a mount
pub data ListenReply : Reply → Type 0 where
  IsOutOfPlace : ListenReply Stray
  HasFinished : (rule : Rule) → ListenReply (Finished rule)
  WasDenied : (rule : Rule) → ListenReply (Deny rule)
  WasShown : (text : CommandText) → ListenReply (Text text)
  WasSeated : (interval : Option ℕ) (head : StreamHead) → ListenReply (Seated interval head)

listen_by : (w : World) (asked : ListenRequest) (event : Event) (o : Outcome) → event ≡ Listen asked → Way w event o → ListenReply o.reply
listen_by w asked event o e (IsAdmitted peer allowed) = cc
listen_by w asked event o e (ComesUp mount shown none allowed) = cc
listen_by w asked event o e (Begins _ undecided none allowed) = cc
listen_by w asked event o e (TakesSeat _ peer session undecided lands live allowed) = WasSeated _ _
listen_by w asked event o e (Misplaced _) = IsOutOfPlace
listen_by w asked event o e (IsFinished _ him by its known) = HasFinished by
listen_by w asked event o e (IsDenied _ by v nobody) = WasDenied by
listen_by w asked event o e (IsRefused _ him by v its undecided) = WasDenied by
listen_by w asked event o e (Receives him mount block feeding) = cc
listen_by w asked event o e (SetsTitle him mount text feeding) = cc
listen_by w asked event o e (Shows _ asker peer text its undecided what) = WasShown text
listen_by w asked event o e (Obeys _ command c) = WasShown _
listen_by w asked event o e (HasPassed ms d) = cc
listen_by w asked event o e (Ticks ms d) = cc
listen_by w asked event o e (HandsOut him room seat session sits has live) = cc
listen_by w asked event o e (Ends him mount feeding no_relay) = cc
listen_by w asked event o e (EndsAndLeaves _ him mount (OfClient no_relay) feeding) = cc
listen_by w asked event o e (EndsAndLeaves _ him mount (OfRelay relay) feeding) = cc
listen_by w asked event o e (Leaves him no_relay other) = cc
listen_by w asked event o e (GoesDown him rule relay told) = cc

pub listen_reply : (w : World) (asked : ListenRequest) → ListenReply (reply_to w (Listen asked))
unfolding reply_to
listen_reply w asked = listen_by w asked (Listen asked) (outcome w (Listen asked)) refl (way_of w (Listen asked))

-- a client draws, or sends a title
abbrev pub IsIdle : ℕ → Event → Type 0
IsIdle id (Draw him room) = him ≡ id
IsIdle id (Title him text) = him ≡ id
IsIdle id event = ⊥

-- the replies to a client that is no source and has no seat
pub data IdleReply (w : World) (id : ℕ) : Reply → Type 0 where
  IsStray : IdleReply w id Stray
  WasFinished : (rule : Rule) → IdleReply w id (Finished rule)
  Sitting : (bytes : List ℕ) (title : Option (List ℕ)) → standing_of w id ≡ Sits → IdleReply w id (Drawn bytes title)
  Sourcing : (mount : List ℕ) → standing_of w id ≡ Feeds mount → IdleReply w id Noted

draw_by : (w : World) (id room : ℕ) (o : Outcome) → Way w (Draw id room) o → IdleReply w id o.reply
draw_by w id room o (Misplaced _) = IsStray
draw_by w id room o (IsFinished _ him by its known) = WasFinished by
draw_by w id room o (IsDenied _ by v nobody) = cc
draw_by w id room o (IsRefused _ him by v its undecided) = cc
draw_by w id room o (Shows _ asker peer text its undecided (IsListing listing l)) = let e = l.is_event in cc
draw_by w id room o (Shows _ asker peer text its undecided (IsAtPath asked path e p)) = cc
draw_by w id room o (Obeys _ command c) = let e = c.is_event in cc
draw_by w id room o (EndsAndLeaves _ him mount closes feeding) = elim closes [ ]
draw_by w id room o (HandsOut _ _ seat session sits has live) = Sitting _ _ sits

title_by : (w : World) (id : ℕ) (text : List ℕ) (o : Outcome) → Way w (Title id text) o → IdleReply w id o.reply
title_by w id text o (Misplaced _) = IsStray
title_by w id text o (IsFinished _ him by its known) = WasFinished by
title_by w id text o (IsDenied _ by v nobody) = cc
title_by w id text o (IsRefused _ him by v its undecided) = cc
title_by w id text o (Shows _ asker peer shown its undecided (IsListing listing l)) = let e = l.is_event in cc
title_by w id text o (Shows _ asker peer shown its undecided (IsAtPath asked path e p)) = cc
title_by w id text o (Obeys _ command c) = let e = c.is_event in cc
title_by w id text o (EndsAndLeaves _ him mount closes feeding) = elim closes [ ]
title_by w id text o (SetsTitle _ mount _ feeding) = Sourcing mount feeding

idle_by : (w : World) (id : ℕ) (event : Event) → IsIdle id event → Way w event (outcome w event) → IdleReply w id (outcome w event).reply
idle_by w id (Arrive peer) i way = elim i [ ]
idle_by w id (Source asked) i way = elim i [ ]
idle_by w id (Push him block) i way = elim i [ ]
idle_by w id (SourceEnd him) i way = elim i [ ]
idle_by w id (Listen asked) i way = elim i [ ]
idle_by w id (Command asked) i way = elim i [ ]
idle_by w id (Leave him) i way = elim i [ ]
idle_by w id (RelayUp mount shown) i way = elim i [ ]
idle_by w id (RelayDown him) i way = elim i [ ]
idle_by w id (Clock ms) i way = elim i [ ]
idle_by w id (Draw him room) i way =
    subst (λ (n : ℕ). IdleReply w n (outcome w (Draw him room)).reply) i (draw_by w him room (outcome w (Draw him room)) way)
idle_by w id (Title him text) i way =
    subst (λ (n : ℕ). IdleReply w n (outcome w (Title him text)).reply) i (title_by w him text (outcome w (Title him text)) way)

pub idle_reply : (w : World) (id : ℕ) (event : Event) → IsIdle id event → IdleReply w id (reply_to w event)
unfolding reply_to
idle_reply w id event i = idle_by w id event i (way_of w event)

-- the replies to a client that leaves
pub data LeaveReply : Reply → Type 0 where
  WasNotThere : LeaveReply Stray
  HadFinished : (rule : Rule) → LeaveReply (Finished rule)
  IsNoted : LeaveReply Noted

leave_by : (w : World) (id : ℕ) (o : Outcome) → Way w (Leave id) o → LeaveReply o.reply
leave_by w id o (Misplaced _) = WasNotThere
leave_by w id o (IsFinished _ him by its known) = HadFinished by
leave_by w id o (IsDenied _ by v nobody) = cc
leave_by w id o (IsRefused _ him by v its undecided) = cc
leave_by w id o (Shows _ asker peer text its undecided (IsListing listing l)) = let e = l.is_event in cc
leave_by w id o (Shows _ asker peer _ its undecided (IsAtPath asked path e p)) = cc
leave_by w id o (Obeys _ command c) = let e = c.is_event in cc
leave_by w id o (EndsAndLeaves _ him mount closes feeding) = IsNoted
leave_by w id o (Leaves him no_relay other) = IsNoted

pub leave_reply : (w : World) (id : ℕ) → LeaveReply (reply_to w (Leave id))
unfolding reply_to
leave_reply w id = leave_by w id (outcome w (Leave id)) (way_of w (Leave id))

-- the replies to a client that delivers a block
pub data PushReply (w : World) (id : ℕ) : Reply → Type 0 where
  PushIsStray : PushReply w id Stray
  PushIsLast : (rule : Rule) → PushReply w id (Finished rule)
  PushIsDenied : (rule : Rule) → PushReply w id (Deny rule)
  PushIsNoted : (mount : List ℕ) → standing_of w id ≡ Feeds mount → PushReply w id Noted

push_by : (w : World) (id : ℕ) (block : List ℕ) (o : Outcome) → Way w (Push id block) o → PushReply w id o.reply
push_by w id block o (Misplaced _) = PushIsStray
push_by w id block o (IsFinished _ him by its known) = PushIsLast by
push_by w id block o (IsDenied _ by v nobody) = PushIsDenied by
push_by w id block o (IsRefused _ him by v its undecided) = PushIsDenied by
push_by w id block o (Shows _ asker peer shown its undecided (IsListing listing l)) = let e = l.is_event in cc
push_by w id block o (Shows _ asker peer shown its undecided (IsAtPath asked path e p)) = cc
push_by w id block o (Obeys _ command c) = let e = c.is_event in cc
push_by w id block o (EndsAndLeaves _ him mount closes feeding) = elim closes [ ]
push_by w id block o (Receives _ mount _ feeding) = PushIsNoted mount feeding

pub push_reply : (w : World) (id : ℕ) (block : List ℕ) → PushReply w id (reply_to w (Push id block))
unfolding reply_to
push_reply w id block = push_by w id block (outcome w (Push id block)) (way_of w (Push id block))

-- a source's block is not out of place
feeds_push_by : (w : World) (id : ℕ) (block mount : List ℕ) → (v : Verdict) → (on_verdict v Nothing (takes_in mount block)).reply ≡ Stray → ⊥
feeds_push_by w id block mount Allow e = cc
feeds_push_by w id block mount (Denied rule) e = cc

pub feeds_push : (w : World) (id : ℕ) (block mount : List ℕ) → standing_of w id ≡ Feeds mount → reply_to w (Push id block) ≡ Stray → ⊥
unfolding reply_to outcome
feeds_push w id block mount e h =
    feeds_push_by w id block mount (verdict_in (rows_to_push w.station mount block))
    (sym (ap (λ (s : Standing). (if_feeding s (λ place.
    on_verdict (verdict_in (rows_to_push w.station place block)) Nothing (takes_in place block))).reply) e) ∙ h)

-- a relay that comes up has the next number, or nothing changes
up_by : (w : World) (mount : List ℕ) (shown : Shown) (o : Outcome) → Way w (RelayUp mount shown) o
    → (o.reply ≡ Arrived (w.station.last_id + 1)) ⊎ (o.change ≡ Nothing)
up_by w mount shown o (Misplaced _) = inr refl
up_by w mount shown o (IsFinished _ him by its known) = inr refl
up_by w mount shown o (IsDenied _ by v nobody) = inr refl
up_by w mount shown o (IsRefused _ him by v its undecided) = cc
up_by w mount shown o (Shows _ asker peer text its undecided what) = cc
up_by w mount shown o (Obeys _ command c) = let e = c.is_event in cc
up_by w mount shown o (EndsAndLeaves _ him place closes feeding) = elim closes [ ]
up_by w mount shown o (ComesUp _ _ none allowed) = inl refl

pub comes_up : (w : World) (mount : List ℕ) (shown : Shown)
    → (reply_to w (RelayUp mount shown) ≡ Arrived (w.station.last_id + 1)) ⊎ (world_after w (RelayUp mount shown) ≡ w)
unfolding reply_to world_after
comes_up w mount shown = elim (up_by w mount shown (outcome w (RelayUp mount shown)) (way_of w (RelayUp mount shown))) [
  | inl e ↦ inl e
  | inr e ↦ inr (ap (changed w) e)
]
