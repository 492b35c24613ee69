use Rattle.std.proofs.Common.{◌≡◌, ℕ, ◌*◌, ◌<◌, ◌∷◌, ◌++◌, length, List, arith, ap, ◌∙◌, sym}
use Rattle.std.proofs.lemmas.List.{append-nil, nil_from_length}
use Rattle.radio_icy.specs.Unweaving.{at_sound, atoms_of_piece, after_feeding}
use Rattle.radio_icy.proofs.UnweavingLemmas.{heard_all_sound, after_all_sound, heard_to_part, after_to_part, heard_to_text, after_to_text, heard_to_none}
use Rattle.radio_icy.proofs.UnweavingLemmas.{after_to_none, turn_to_text, turn_to_none, turn_to_end}
use Rattle.radio_icy.proofs.unweaver.read_intervals.Goals as goal

pub returns-in_default-clause-heard : goal.returns-in_default-clause-heard
returns-in_default-clause-heard c =
    let sound : List ℕ = c.split_at.result.0.now in
    let none = nil_from_length c.split_at.result.1.now c.in_default.ensures.cases in
    let rest_is : c.intervals.rest.now ≡ sound = c.split_at.ensures.by_index.0 ∙ (ap (λ t. sound ++ t) none ∙ append-nil sound) in
    turn_to_end _ _ _ _ _ c.in_ok-add_sound.ensures
    (ap (atoms_of_piece (at_sound c.args.interval c.intervals.left)) rest_is
    ∙ heard_all_sound c.args.interval c.intervals.left sound (omega (arith, c.split_at.ensures.front_len)))
    c.intervals.invariant.0

pub returns-in_default-clause-after : goal.returns-in_default-clause-after
returns-in_default-clause-after c =
    let sound : List ℕ = c.split_at.result.0.now in
    let none = nil_from_length c.split_at.result.1.now c.in_default.ensures.cases in
    let rest_is : c.intervals.rest.now ≡ sound = c.split_at.ensures.by_index.0 ∙ (ap (λ t. sound ++ t) none ∙ append-nil sound) in
    after_all_sound c.args.interval c.intervals.left sound (omega (arith, c.split_at.ensures.front_len))
    ∙ (ap (after_feeding (at_sound c.args.interval c.intervals.left)) (sym rest_is) ∙ c.intervals.invariant.1)

pub returns-then-block-size-clause-heard : goal.returns-then-block-size-clause-heard
returns-then-block-size-clause-heard c =
    let sound : List ℕ = c.split_at.result.0.now in
    let units : ℕ = c.in-Some.field-0-0.now in
    let block : List ℕ = c.in-Some.block.now in
    let whole : c.intervals.left ≡ length sound = omega (arith, c.split_at.ensures.front_len, c.split_at.ensures.back_len, c.in-Some.ensures.cases.1) in
    let rest_is : c.intervals.rest.now ≡ sound ++ units ∷ block = c.split_at.ensures.by_index.0 ∙ ap (λ t. sound ++ t) c.in-Some.ensures.cases.0 in
    turn_to_end _ _ _ _ _ c.in_ok-add_sound.ensures
    (ap (atoms_of_piece (at_sound c.args.interval c.intervals.left)) rest_is
    ∙ heard_to_part c.args.interval c.intervals.left units sound block whole c.if-block-size.true)
    c.intervals.invariant.0

pub returns-then-block-size-clause-after : goal.returns-then-block-size-clause-after
returns-then-block-size-clause-after c =
    let sound : List ℕ = c.split_at.result.0.now in
    let units : ℕ = c.in-Some.field-0-0.now in
    let block : List ℕ = c.in-Some.block.now in
    let whole : c.intervals.left ≡ length sound = omega (arith, c.split_at.ensures.front_len, c.split_at.ensures.back_len, c.in-Some.ensures.cases.1) in
    let rest_is : c.intervals.rest.now ≡ sound ++ units ∷ block = c.split_at.ensures.by_index.0 ∙ ap (λ t. sound ++ t) c.in-Some.ensures.cases.0 in
    after_to_part c.args.interval c.intervals.left units sound block whole c.if-block-size.true
    ∙ (ap (after_feeding (at_sound c.args.interval c.intervals.left)) (sym rest_is) ∙ c.intervals.invariant.1)

pub intervals-preserved-in_ok-add_text : goal.intervals-preserved-in_ok-add_text
intervals-preserved-in_ok-add_text c =
    let sound : List ℕ = c.split_at.result.0.now in
    let units : ℕ = c.in-Some.field-0-0.now in
    let text : List ℕ = c.split_at-in-intervals.result.0.now in
    let later : List ℕ = c.split_at-in-intervals.result.1.now in
    let whole : c.intervals.left ≡ length sound = omega (arith, c.split_at.ensures.front_len, c.split_at.ensures.back_len, c.in-Some.ensures.cases.1) in
    let some : 0 < units = omega (arith, c.if-size-gt0.true) in
    let size : length text ≡ 16 * units = omega (arith, c.split_at-in-intervals.ensures.front_len) in
    let block_is = c.split_at-in-intervals.ensures.by_index.0 in
    let rest_is : c.intervals.rest.now ≡ sound ++ units ∷ (text ++ later) =
    c.split_at.ensures.by_index.0 ∙ ap (λ t. sound ++ t) (c.in-Some.ensures.cases.0 ∙ ap (λ t. units ∷ t) block_is) in (
      turn_to_text _ _ _ _ _ _ _ _ c.in_ok-add_sound.ensures c.in_ok-add_text.ensures
          (ap (atoms_of_piece (at_sound c.args.interval c.intervals.left)) rest_is
          ∙ heard_to_text c.args.interval c.intervals.left units sound text later whole some size)
          c.intervals.invariant.0,
      sym (ap (after_feeding (at_sound c.args.interval c.intervals.left)) rest_is
          ∙ after_to_text c.args.interval c.intervals.left units sound text later whole some size)
          ∙ c.intervals.invariant.1,
    )

pub intervals-preserved : goal.intervals-preserved
intervals-preserved c =
    let sound : List ℕ = c.split_at.result.0.now in
    let units : ℕ = c.in-Some.field-0-0.now in
    let later : List ℕ = c.split_at-in-intervals.result.1.now in
    let whole : c.intervals.left ≡ length sound = omega (arith, c.split_at.ensures.front_len, c.split_at.ensures.back_len, c.in-Some.ensures.cases.1) in
    let none : units ≡ 0 = omega (arith, c.if-size-gt0.false) in
    let empty = nil_from_length c.split_at-in-intervals.result.0.now (omega (arith, c.split_at-in-intervals.ensures.front_len)) in
    let block_is : c.in-Some.block.now ≡ later = c.split_at-in-intervals.ensures.by_index.0 ∙ ap (λ t. t ++ later) empty in
    let rest_is : c.intervals.rest.now ≡ sound ++ 0 ∷ later =
    c.split_at.ensures.by_index.0 ∙ ap (λ t. sound ++ t)
    (c.in-Some.ensures.cases.0 ∙ (ap (λ (q : ℕ). q ∷ c.in-Some.block.now) none ∙ ap (λ (t : List ℕ). 0 ∷ t) block_is)) in (
      turn_to_none _ _ _ _ _ _ c.in_ok-add_sound.ensures
          (ap (atoms_of_piece (at_sound c.args.interval c.intervals.left)) rest_is ∙ heard_to_none c.args.interval c.intervals.left sound later whole)
          c.intervals.invariant.0,
      sym (ap (after_feeding (at_sound c.args.interval c.intervals.left)) rest_is ∙ after_to_none c.args.interval c.intervals.left sound later whole)
          ∙ c.intervals.invariant.1,
    )
