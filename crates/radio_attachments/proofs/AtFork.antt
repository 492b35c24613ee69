-- what is known of a tree's rows once it is a fork
use Rattle.std.proofs.Common.{◌≡◌, ℕ, Bool, true, false, Option, Some, List, ◌++◌, Box, not, refl, ap, sym, subst, ◌∙◌}
use Rattle.std.specs.Prelude.{◌==◌, filter}
use Rattle.std.specs.declared.alloc.Global.{Global}
use Rattle.std.proofs.lemmas.Bool.{eqb-true}
use Rattle.radio_attachments.specs.declared.attachment.Attachment.{Attachment}
use Rattle.radio_attachments.specs.declared.branch.Node.{Node}
use Rattle.radio_attachments.specs.Rows.{comes_before, AreInOrder, Forked}
use Rattle.radio_attachments.specs.Shape.{rows_in, rows_of}
use Rattle.radio_attachments.proofs.Forks.{splits_apart}

pub record AtFork (d : List Attachment) (fork : Forked) : Type 0 where
  pub is : d ≡ rows_in fork
  pub sorted : AreInOrder (rows_in fork)

pub at_fork : {top : Option (Box Node Global)} {d : List Attachment} {b : Box Node Global} → rows_of top ≡ d → AreInOrder (rows_of top) → top ≡ Some b
    → AtFork d b.value
at_fork view_is sorted is = record { is = sym view_is ∙ ap rows_of is; sorted = subst (λ (t : Option (Box Node Global)). AreInOrder (rows_of t)) is sorted }

pub apart_so : (a b : ℕ) → (a ≡ b → ⊥) → (a == b) ≡ false
apart_so a b other = by_test (a == b) refl where
  by_test : (c : Bool) → (a == b) ≡ c → c ≡ false
  by_test true e = absurd (other (eqb-true a b e))
  by_test false e = refl

-- a node that was looked at twice: whether an attachment of the number comes before it, and that it is another's
pub its_side : {one v : Forked} {before b : Bool} (id : ℕ) → one ≡ v → before ≡ comes_before id one.row.id → before ≡ b → comes_before id v.row.id ≡ b
its_side id one is test = sym (ap (λ (x : Forked). comes_before id x.row.id) one) ∙ sym is ∙ test

pub not_its : {one v : Forked} (id : ℕ) → one ≡ v → (id ≡ one.row.id → ⊥) → (id == v.row.id) ≡ false
not_its {one = one} {v = v} id same other = apart_so id v.row.id (λ e. other (e ∙ sym (ap (λ (x : Forked). x.row.id) same)))

-- a node whose sides were split, the first and then the second
pub record SidesSplit (p : Attachment → Bool) (d : List Attachment) (v second third : Forked) (out rest_more out_more : List Attachment) : Type 0 where
  pub is : d ≡ rows_in v
  pub sorted : AreInOrder (rows_in v)
  pub row : second.row ≡ v.row
  pub less : second.less ≡ filter (λ row. not (p row)) v.less
  pub less_out : out ≡ filter p v.less
  pub more : rest_more ≡ filter (λ row. not (p row)) v.more
  pub more_out : out_more ≡ filter p v.more
  pub tested : third.row ≡ v.row

pub sides_split : {d : List Attachment} {v first second third : Forked} {less_rest less_out more_rest more_out : List Attachment} (p : Attachment → Bool)
    → AtFork d v → first ≡ v → second ≡ record first { less = less_rest } → third ≡ record second { more = more_rest }
    → less_rest ≡ filter (λ row. not (p row)) first.less → less_out ≡ filter p first.less → more_rest ≡ filter (λ row. not (p row)) second.more
    → more_out ≡ filter p second.more → SidesSplit p d v second third less_out more_rest more_out
sides_split p f one two three rest out rest_more out_more =
    let row = ap (λ (x : Forked). x.row) two ∙ ap (λ (x : Forked). x.row) one in
    let more = ap (λ (x : Forked). x.more) two ∙ ap (λ (x : Forked). x.more) one in record {
      is = f.is;
      sorted = f.sorted;
      row = row;
      less = ap (λ (x : Forked). x.less) two ∙ rest ∙ ap (λ (x : Forked). filter (λ row. not (p row)) x.less) one;
      less_out = out ∙ ap (λ (x : Forked). filter p x.less) one;
      more = rest_more ∙ ap (filter (λ row. not (p row))) more;
      more_out = out_more ∙ ap (filter p) more;
      tested = ap (λ (x : Forked). x.row) three ∙ row;
    }

-- what is left of both sides, if the node's own attachment is taken out
pub sides_kept : {d : List Attachment} {v second third fourth fifth : Forked} {out rest_more out_more inner taken_less taken_more : List Attachment}
    {p : Attachment → Bool} → SidesSplit p d v second third out rest_more out_more → fourth ≡ record second { more = rest_more }
    → fifth ≡ record fourth { less = inner } → taken_less ≡ fourth.less → taken_more ≡ fifth.more → p v.row ≡ true
    → taken_less ++ taken_more ≡ filter (λ row. not (p row)) (rows_in v)
sides_kept {v = v} {taken_more = taken_more} {p = p} s four five less more passed =
    ap (λ ys. ys ++ taken_more) (less ∙ ap (λ (x : Forked). x.less) four ∙ s.less)
    ∙ ap (λ ys. filter (λ row. not (p row)) v.less ++ ys) (more ∙ ap (λ (x : Forked). x.more) five ∙ ap (λ (x : Forked). x.more) four ∙ s.more)
    ∙ sym (splits_apart (λ row. not (p row)) v.less v.row v.more (ap not passed))
