use Rattle.std.proofs.Common.{◌≡◌, [], Some, subst, sym, ap, ◌∙◌}
use Rattle.radio_source.specs.Feeding.{Feeding, Brings, Refuses, answer_to, after_feed}
use Rattle.radio_session.specs.declared.session.LastWord.{LastWord}
use Rattle.radio_session.proofs.FeedLemmas.{faultless, faulty, same_after}
use Rattle.radio_session.proofs.session.feeding.fault.Goals as goal

pub returns-in_default-clause-word : goal.returns-in_default-clause-word
returns-in_default-clause-word c =
    let found = c.in_default.field-0 in
    let answers = subst (λ (f : Feeding). answer_to f [] ≡ Brings found.blocks.items found.is_complete) c.requires.open c.in_default.ensures.ok in
    faultless c.args.body.now.place c.requires.unfinished found.blocks.items found.is_complete answers

pub returns-in_default-clause-body : goal.returns-in_default-clause-body
returns-in_default-clause-body c none =
    let found = c.in_default.field-0 in
    let answers = subst (λ (f : Feeding). answer_to f [] ≡ Brings found.blocks.items found.is_complete) c.requires.open c.in_default.ensures.ok in
    c.in_default.ensures.after (λ e. cc)
    ∙ ap (λ (f : Feeding). after_feed f []) c.requires.open
    ∙ same_after c.args.body.now.place c.requires.unfinished found.blocks.items found.is_complete answers
    ∙ sym c.requires.open

pub returns-clause-word : goal.returns-clause-word
returns-clause-word c =
    let answers = subst (λ (f : Feeding). answer_to f [] ≡ Refuses c.in-Err.body_fault) c.requires.open (c.in-Err.ensures.fault c.in_ok-word.ensures.memory) in
    ap (λ (w : LastWord). Some w) c.in_ok-word.ensures.word ∙ faulty c.args.body.now.place c.requires.unfinished c.in-Err.body_fault answers
