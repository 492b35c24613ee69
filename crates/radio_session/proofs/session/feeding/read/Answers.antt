use Rattle.std.proofs.Common.{◌≡◌, Bool, true, false, Some, subst, sym, ap, ◌∙◌}
use Rattle.radio_source.specs.Place.{after, has_ended, fault_at}
use Rattle.radio_source.specs.Feeding.{Feeding, Brings, Refuses, unfed, answer_to, after_feed}
use Rattle.radio_session.specs.declared.session.LastWord.{LastWord}
use Rattle.radio_session.specs.Hearing.{body_closes}
use Rattle.radio_session.proofs.FeedLemmas.{brought, closed_faulty, goes_on}
use Rattle.radio_session.proofs.session.feeding.read.Goals as goal

pub returns-then-is_complete-clause-blocks : goal.returns-then-is_complete-clause-blocks
returns-then-is_complete-clause-blocks c =
    let place = c.args.body.now.place in
    let bytes = c.args.bytes.now in
    let found = c.in-Ok.field-0 in
    let answers = subst (λ (f : Feeding). answer_to f bytes ≡ Brings found.blocks.items found.is_complete) c.requires c.in-Ok.ensures.ok in
    (brought place bytes found.blocks.items found.is_complete answers).0

pub returns-then-is_complete-clause-word : goal.returns-then-is_complete-clause-word
returns-then-is_complete-clause-word c =
    let place = c.args.body.now.place in
    let bytes = c.args.bytes.now in
    let found = c.in-Ok.field-0 in
    let answers = subst (λ (f : Feeding). answer_to f bytes ≡ Brings found.blocks.items found.is_complete) c.requires c.in-Ok.ensures.ok in
    let full : found.is_complete ≡ true = cc (c.if-is_complete.true) in
    ap (λ (b : Bool). body_closes b (fault_at (after place bytes))) (sym full ∙ (brought place bytes found.blocks.items found.is_complete answers).1)

pub fault-requires-clause-open : goal.fault-requires-clause-open
fault-requires-clause-open c =
    let place = c.args.body.now.place in
    let bytes = c.args.bytes.now in
    let found = c.in-Ok.field-0 in
    let answers = subst (λ (f : Feeding). answer_to f bytes ≡ Brings found.blocks.items found.is_complete) c.requires c.in-Ok.ensures.ok in
    let incomplete : found.is_complete ≡ false = cc (c.if-is_complete.false) in
    let after_this : c.feed.new.self ≡ unfed (after place bytes) = c.in-Ok.ensures.after (λ e. cc)
    ∙ ap (λ (f : Feeding). after_feed f bytes) c.requires ∙ goes_on place bytes found.blocks.items
    (answers ∙ ap (λ (b : Bool). Brings found.blocks.items b) incomplete) in
    after_this ∙ sym (ap (λ (f : Feeding). unfed f.place) after_this)

pub fault-requires-clause-unfinished : goal.fault-requires-clause-unfinished
fault-requires-clause-unfinished c =
    let place = c.args.body.now.place in
    let bytes = c.args.bytes.now in
    let found = c.in-Ok.field-0 in
    let answers = subst (λ (f : Feeding). answer_to f bytes ≡ Brings found.blocks.items found.is_complete) c.requires c.in-Ok.ensures.ok in
    let incomplete : found.is_complete ≡ false = cc (c.if-is_complete.false) in
    let after_this : c.feed.new.self ≡ unfed (after place bytes) = c.in-Ok.ensures.after (λ e. cc)
    ∙ ap (λ (f : Feeding). after_feed f bytes) c.requires ∙ goes_on place bytes found.blocks.items
    (answers ∙ ap (λ (b : Bool). Brings found.blocks.items b) incomplete) in
    ap (λ (f : Feeding). has_ended f.place) after_this ∙ sym (brought place bytes found.blocks.items found.is_complete answers).1 ∙ incomplete

pub returns-in_ok-word-in-Ok-clause-blocks : goal.returns-in_ok-word-in-Ok-clause-blocks
returns-in_ok-word-in-Ok-clause-blocks c =
    let place = c.args.body.now.place in
    let bytes = c.args.bytes.now in
    let found = c.in-Ok.field-0 in
    let answers = subst (λ (f : Feeding). answer_to f bytes ≡ Brings found.blocks.items found.is_complete) c.requires c.in-Ok.ensures.ok in
    (brought place bytes found.blocks.items found.is_complete answers).0

pub returns-in_ok-word-in-Ok-clause-word : goal.returns-in_ok-word-in-Ok-clause-word
returns-in_ok-word-in-Ok-clause-word c =
    let place = c.args.body.now.place in
    let bytes = c.args.bytes.now in
    let found = c.in-Ok.field-0 in
    let answers = subst (λ (f : Feeding). answer_to f bytes ≡ Brings found.blocks.items found.is_complete) c.requires c.in-Ok.ensures.ok in
    let incomplete : found.is_complete ≡ false = cc (c.if-is_complete.false) in
    let after_this : c.feed.new.self ≡ unfed (after place bytes) = c.in-Ok.ensures.after (λ e. cc)
    ∙ ap (λ (f : Feeding). after_feed f bytes) c.requires ∙ goes_on place bytes found.blocks.items
    (answers ∙ ap (λ (b : Bool). Brings found.blocks.items b) incomplete) in
    c.in_ok-word-in-Ok.ensures.word
    ∙ ap (λ (f : Feeding). body_closes false (fault_at f.place)) after_this
    ∙ ap (λ (b : Bool). body_closes b (fault_at (after place bytes))) (sym incomplete ∙ (brought place bytes found.blocks.items found.is_complete answers).1)

pub returns-in_ok-word-in-Ok-clause-body : goal.returns-in_ok-word-in-Ok-clause-body
returns-in_ok-word-in-Ok-clause-body c none =
    let place = c.args.body.now.place in
    let bytes = c.args.bytes.now in
    let found = c.in-Ok.field-0 in
    let answers = subst (λ (f : Feeding). answer_to f bytes ≡ Brings found.blocks.items found.is_complete) c.requires c.in-Ok.ensures.ok in
    let incomplete : found.is_complete ≡ false = cc (c.if-is_complete.false) in
    let after_this : c.feed.new.self ≡ unfed (after place bytes) = c.in-Ok.ensures.after (λ e. cc)
    ∙ ap (λ (f : Feeding). after_feed f bytes) c.requires ∙ goes_on place bytes found.blocks.items
    (answers ∙ ap (λ (b : Bool). Brings found.blocks.items b) incomplete) in
    c.in_ok-word-in-Ok.ensures.body none ∙ after_this

pub returns-in_ok-word-in-Err-clause-blocks : goal.returns-in_ok-word-in-Err-clause-blocks
returns-in_ok-word-in-Err-clause-blocks c =
    let place = c.args.body.now.place in
    let bytes = c.args.bytes.now in
    let answers = subst (λ (f : Feeding). answer_to f bytes ≡ Refuses c.in-Err.body_fault) c.requires (c.in-Err.ensures.fault c.in_ok-word-in-Err.ensures.memory) in
    c.new.ensures.items ∙ (closed_faulty place bytes c.in-Err.body_fault answers).0

pub returns-in_ok-word-in-Err-clause-word : goal.returns-in_ok-word-in-Err-clause-word
returns-in_ok-word-in-Err-clause-word c =
    let place = c.args.body.now.place in
    let bytes = c.args.bytes.now in
    let answers = subst (λ (f : Feeding). answer_to f bytes ≡ Refuses c.in-Err.body_fault) c.requires (c.in-Err.ensures.fault c.in_ok-word-in-Err.ensures.memory) in
    ap (λ (w : LastWord). Some w) c.in_ok-word-in-Err.ensures.word ∙ (closed_faulty place bytes c.in-Err.body_fault answers).1
