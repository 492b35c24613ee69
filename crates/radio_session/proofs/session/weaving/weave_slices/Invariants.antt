use Rattle.std.proofs.Common.{◌≡◌, ◌++◌, ℕ, List, length, drop}
use Rattle.std.specs.List.{concat}
use Rattle.std.specs.Option.{option_copied}
use Rattle.radio_icy.specs.Weaving.{woven, after_weaving}
use Rattle.radio_session.proofs.session.weaving.weave_slices.Given as goal

-- the bytes written so far follow those that were there before, and the remaining slices give the rest
abbrev pub invariant-loop-slice : goal.invariant-loop-slice
invariant-loop-slice l = record {
  before : l.before ≡ length l.initial.out.items;
  so_far : List ℕ;
  out : l.out.items ≡ l.initial.out.items ++ so_far;
  left : so_far ++ woven l.weaver (option_copied l.title) (concat (drop l.slice-index l.slices)) ≡ woven l.initial.weaver (option_copied l.title)
      (concat l.slices);
  after : after_weaving l.weaver (option_copied l.title) (concat (drop l.slice-index l.slices)) ≡ after_weaving l.initial.weaver
      (option_copied l.title) (concat l.slices);
}
