use Rattle.std.proofs.Common.{◌≡◌, ℕ, ◌<◌, ◌∷◌, ◌++◌, length, List, arith, ap, ◌∙◌, sym, MatchOption}
use Rattle.std.specs.Prelude.{⊤}
use Rattle.radio_icy.specs.Unweaving.{in_block, at_sound, atoms_of_piece, after_feeding, WholeText, without_padding}
use Rattle.radio_icy.proofs.UnweavingLemmas.{heard_part, after_part, heard_block, after_block}
use Rattle.radio_icy.proofs.unweaver.Unweaver.feed.Goals as goal

pub returns-then-bytes-self-clause-heard : goal.returns-then-bytes-self-clause-heard
returns-then-bytes-self-clause-heard c =
    rw (← c.self.view_is, c.in-Some.is, c.new-then-bytes-self.ensures.items)
    (sym (heard_part c.self.inside.interval c.self.inside.left c.in-Some.held.items c.args.bytes.now c.if-bytes-self.true))

pub returns-then-bytes-self-clause-after : goal.returns-then-bytes-self-clause-after
returns-then-bytes-self-clause-after c =
    rw (← c.self.view_is, c.in-Some.is, c.in_ok-extend_from_slice-in-Some.ensures.items)
    (sym (after_part c.self.inside.interval c.self.inside.left c.in-Some.held.items c.args.bytes.now c.if-bytes-self.true))

pub returns-in_ok-add_text-in-Some-clause-heard : goal.returns-in_ok-add_text-in-Some-clause-heard
returns-in_ok-add_text-in-Some-clause-heard c =
    let n : ℕ = c.self.inside.interval in
    let end : List ℕ = c.split_at.result.0.now in
    let rest : List ℕ = c.split_at.result.1.now in
    let begun : MatchOption c.self.inside.block ⊤ (λ _. 0 < c.self.inside.left) = c.self.invariant in
    let some : 0 < c.self.inside.left = rw c.in-Some.is at begun in
    let size : c.self.inside.left ≡ length end = omega (arith, c.split_at.ensures.front_len) in
    let held : List ℕ = c.in-Some.held.items in
    let all : atoms_of_piece (in_block n c.self.inside.left held) c.args.bytes.now ≡ WholeText (without_padding (held ++ end)) ∷ atoms_of_piece (at_sound n n) rest =
    ap (atoms_of_piece (in_block n c.self.inside.left held)) c.split_at.ensures.by_index.0 ∙ heard_block n c.self.inside.left held end rest some size in
    rw (← c.self.view_is, c.in-Some.is, all)
    (rw (c.in_ok-add_text-in-Some.ensures, c.new-items.ensures, c.as_slice.ensures.value) at c.feed_sound-in-Some.ensures.heard)

pub returns-in_ok-add_text-in-Some-clause-after : goal.returns-in_ok-add_text-in-Some-clause-after
returns-in_ok-add_text-in-Some-clause-after c =
    let n : ℕ = c.self.inside.interval in
    let end : List ℕ = c.split_at.result.0.now in
    let rest : List ℕ = c.split_at.result.1.now in
    let begun : MatchOption c.self.inside.block ⊤ (λ _. 0 < c.self.inside.left) = c.self.invariant in
    let some : 0 < c.self.inside.left = rw c.in-Some.is at begun in
    let size : c.self.inside.left ≡ length end = omega (arith, c.split_at.ensures.front_len) in
    let held : List ℕ = c.in-Some.held.items in
    let all : after_feeding (in_block n c.self.inside.left held) c.args.bytes.now ≡ after_feeding (at_sound n n) rest =
    ap (after_feeding (in_block n c.self.inside.left held)) c.split_at.ensures.by_index.0 ∙ after_block n c.self.inside.left held end rest some size in
    rw (← c.self.view_is, c.in-Some.is, all) c.feed_sound-in-Some.ensures.after
