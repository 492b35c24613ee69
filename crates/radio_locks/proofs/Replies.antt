-- Whose reply a call has.
use Rattle.std.proofs.Common.{Option, None, Some, Result, Ok, Err, IfOk}
use Rattle.std.proofs.Math.Logic.{∥∥₁_map}
use Rattle.radio_locks.proofs.Words.{AllocError, BookOfMount, CanOwn, GivesBack, IsDone, IsReplyHere, Own, Made, Elsewhere, Event, Reply, World, IsReplied, IsRepliedIf, IsReplyOrElsewhere}
use Rattle.radio_book.specs.ControlLists.{IsControlReply}
use Rattle.radio_locks.specs.Replies.IsReplied.{ByMount, ByControl}

pub tried_by : (opening : World) (before after : BookOfMount) (event : Event) (result : Result Own AllocError) → IfOk result (λ own. GivesBack event own)
    → (CanOwn before event → IfOk result (λ own. IsDone before event own after)) → IfOk result (λ own. ∥ IsReplyOrElsewhere opening event own ∥₁)
tried_by opening before after event (Ok (Made reply)) is done = ∣ ByMount before after done ∣₁
tried_by opening before after event (Ok (Elsewhere same)) is done = ∣ is ∣₁
tried_by opening before after event (Err refused) is done = tt

pub drawn_by : (opening : World) (before after : BookOfMount) (event : Event) (result : Result (Option Reply) AllocError)
    → (CanOwn before event → IfOk result (λ reply. IsReplyHere before event reply after)) → IfOk result (λ reply. ∥ IsRepliedIf opening event reply ∥₁)
drawn_by opening before after event (Ok (Some reply)) done = ∣ ByMount before after done ∣₁
drawn_by opening before after event (Ok None) done = ∣ tt ∣₁
drawn_by opening before after event (Err refused) done = tt

pub replied_by : (opening : World) (event : Event) (result : Result Reply AllocError)
    → IfOk result (λ reply. ∥ IsControlReply opening event reply ∥₁) → IfOk result (λ reply. ∥ IsReplied opening event reply ∥₁)
replied_by opening event (Ok reply) legal = ∥∥₁_map legal (λ (l : IsControlReply opening event reply). ByControl l)
replied_by opening event (Err refused) legal = tt
