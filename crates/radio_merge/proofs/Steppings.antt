-- A core steps through one entry more.
use Rattle.std.proofs.Common.{◌≡◌, ℕ, ◌+◌, ◌<◌, take, get_or, length, List, [], ◌∷◌, ◌++◌, Result, Ok, IfOk, refl, sym, ap, subst, ◌∙◌}
use Rattle.radio_merge.proofs.Words.{take_more, IfOk-at_ok, Entry, World, ControlLine, MountItem, Stamp, Family, Positions, Merged, Begins, beginning, IsSoFar}
use Rattle.radio_events.specs.declared.reply.Reply.{Reply}
use Rattle.radio_parts.specs.Step.{Step, reply_to, world_after}
use Rattle.radio_core.specs.Represents.{Represents}
use Rattle.radio_chronicle.specs.History.{world_of, IsRun}

world_of_more : (w : World) (history : List Entry) (e : Entry) → world_of w (history ++ e ∷ []) ≡ world_after (world_of w history) e.event
world_of_more w [] e = refl
world_of_more w (x ∷ history) e = world_of_more (world_after w x.event) history e

run_more : (w : World) (history : List Entry) (e : Entry) → IsRun w history → e.reply ≡ reply_to (world_of w history) e.event → IsRun w (history ++ e ∷ [])
run_more w [] e run next = (next, tt)
run_more w (x ∷ history) e run next = (run.0, run_more (world_after w x.event) history e run.1 next)

-- for each state that the core represents, the entry is a step from it
abbrev pub Steps : World → Entry → World → Type 0
Steps core e core' = (w : World) → Represents core w → (e.reply ≡ reply_to w e.event) × Represents core' (world_after w e.event)

-- what a core says of a step
pub core_steps : {E : Type 0} (core core' : World) (e : Entry) (result : Result Reply E) → result ≡ Ok e.reply
    → ((w : World) → Represents core w → IfOk result (λ r. (w' : World) × Step w e.event r w' × Represents core' w')) → Steps core e core'
core_steps core core' e result is step =
    λ w represents.
    let at = IfOk-at_ok (λ r. (w' : World) × Step w e.event r w' × Represents core' w') is (step w represents) in
    (at.1.0, subst (λ v. Represents core' v) at.1.1 at.2)

pub one_more : (opening : World) (control : List ControlLine) (mounts : List (List MountItem)) (order : List Stamp) (s : Stamp) (core core' : World)
    (history history' : List Entry) (e made : Entry) (at at' : Positions)
    → ((order : List Stamp) (history : List Entry) → Merged control mounts order history at → Merged control mounts (order ++ s ∷ []) (history ++ e ∷ []) at')
    → made ≡ e → Steps core made core' → history' ≡ history ++ made ∷ []
    → IsSoFar opening control mounts order core history at → IsSoFar opening control mounts (order ++ s ∷ []) core' history' at'
one_more opening control mounts order s core core' history history' e made at at' takes same steps grows so =
    let step = steps (world_of opening history) so.represents in
    let is : IsSoFar opening control mounts (order ++ s ∷ []) core' (history ++ made ∷ []) at' = record {
      merged = subst (λ (x : Entry). Merged control mounts (order ++ s ∷ []) (history ++ x ∷ []) at') (sym same) (takes order history so.merged);
      run = run_more opening history made so.run step.0;
      represents = subst (λ w. Represents core' w) (sym (world_of_more opening history made)) step.1;
    } in
    subst (λ (h : List Entry). IsSoFar opening control mounts (order ++ s ∷ []) core' h at') (sym grows) is

-- nothing was taken
pub begins : (opening : World) (control : List ControlLine) (mounts : List (List MountItem)) (core : World) (history : List Entry) (at : Positions)
    → history ≡ [] → at ≡ beginning control mounts → Represents core opening → IsSoFar opening control mounts [] core history at
begins opening control mounts core history at none start represents =
    let is : IsSoFar opening control mounts [] core [] (beginning control mounts) = record { merged = Begins; run = tt; represents = represents } in
    subst (λ (h : List Entry). IsSoFar opening control mounts [] core h at) (sym none)
    (subst (λ (x : Positions). IsSoFar opening control mounts [] core [] x) (sym start) is)

-- one more of the order
pub goes_on : (family here : Family) → here ≡ family → (stamps : List Stamp) (i : ℕ) (s : Stamp) → i < length stamps → s ≡ get_or stamps i s
    → (core core' : World) (history history' : List Entry) (at at' : Positions)
    → ((opening : World) (order : List Stamp) → IsSoFar opening here.control.items here.mounts.items order core history at
    → IsSoFar opening here.control.items here.mounts.items (order ++ s ∷ []) core' history' at')
    → (opening : World) → IsSoFar opening family.control.items family.mounts.items (take i stamps) core history at
    → IsSoFar opening family.control.items family.mounts.items (take (i + 1) stamps) core' history' at'
goes_on family here is stamps i s below one core core' history history' at at' step opening so =
    let before = subst (λ (f : Family). IsSoFar opening f.control.items f.mounts.items (take i stamps) core history at) (sym is) so in
    let after = step opening (take i stamps) before in
    let all : take (i + 1) stamps ≡ take i stamps ++ s ∷ [] = take_more stamps i s below ∙ ap (λ (x : Stamp). take i stamps ++ x ∷ []) (sym one) in
    subst (λ (xs : List Stamp). IsSoFar opening family.control.items family.mounts.items xs core' history' at') (sym all)
    (subst (λ (f : Family). IsSoFar opening f.control.items f.mounts.items (take i stamps ++ s ∷ []) core' history' at') is after)
