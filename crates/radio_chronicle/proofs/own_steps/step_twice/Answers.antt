use Rattle.std.proofs.Common.{◌≡◌, ◌⊎◌, inl, inr, Result, Ok, Err, IsOk, OnErr, ◌∙◌, sym}
use Rattle.std.proofs.lemmas.Bool.{false≢true}
use Rattle.radio_chronicle.proofs.Words.{HoldsNoText, MountPart, set_back_in}
use Rattle.radio_chronicle.proofs.OwnLemmas.{undone}
use Rattle.radio_chronicle.proofs.own_steps.step_twice.Goals as goal

-- nothing has changed if memory was refused
refused_so : {A E : Type 0} (result : Result A E) (before after set_back : MountPart) (NoText : Type 0) → (NoText → IsOk result) → OnErr result (after ≡ set_back)
    → NoText ⊎ (set_back ≡ before) → OnErr result (after ≡ before)
refused_so (Ok a) before after set_back NoText frees err is = tt
refused_so (Err e) before after set_back NoText frees err (inl short) = absurd (false≢true (frees short))
refused_so (Err e) before after set_back NoText frees err (inr back) = err ∙ back

pub returns-in-Replied-clause-err : goal.returns-in-Replied-clause-err
returns-in-Replied-clause-err c can =
    let replied = sym (c.in_ok-reply.ensures.answer can) ∙ c.in-Replied.is in
    let is = undone c.args.queue c.args.moment c.args.part.now c.args.event c.in-Replied.reply replied in
    refused_so c.twice_or_set_back.result c.args.part.now c.twice_or_set_back.new.part (set_back_in c.drawer_in-drawer.result c.step.new.self)
    (HoldsNoText c.in-Replied.reply) c.twice_or_set_back.ensures.frees c.twice_or_set_back.ensures.err
    (rw (c.drawer_in-drawer.ensures, c.in_ok-reply.ensures.ok can) is)
