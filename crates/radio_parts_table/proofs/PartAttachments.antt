-- the parts, after the attachments of one have changed
use Rattle.std.proofs.Common.{◌≡◌, Bool, true, false, ℕ, Option, Some, None, List, [], ◌∷◌, refl, ap, sym, subst, ◌∙◌}
use Rattle.radio_parts_table.proofs.Words.{find, filter, not, if◌then◌else◌, slice_cmp, nat_cmp, match_ordering, Ordering, Less, Equal, Greater, option_map, update_first, placed, Each, Each_each, Each_kept, Each_updated}
use Rattle.radio_parts_table.proofs.Words.{Each_placed, find_here, find_later, passes_none, GoNoFurther, MountPart, IsNamed, by_mount_of, attached_in, is_part_of, MountAttachments, attached_to, is_of_mount}
use Rattle.radio_parts_table.proofs.Words.{with_attached, on_part}
use Rattle.radio_parts_table.proofs.LiveLemmas.{AreRising, are_others, rest_rises, part_added, part_removed, sessions_left}
use Rattle.radio_parts_table.proofs.PartLemmas.{AreWhole, attached_changed, both_so}

module _ (mount : List ℕ) where
  found_at : (part : MountPart) (parts : List MountPart) (b : Bool) → find (is_of_mount mount) (attached_in parts) ≡ option_map attached_to (find (is_part_of mount) parts)
      → (if b then Some (attached_to part) else find (is_of_mount mount) (attached_in parts))
      ≡ option_map attached_to (if b then Some part else find (is_part_of mount) parts)
  found_at part parts true later = refl
  found_at part parts false later = later

  -- the attachments that are seen are those of the part
  pub found_attached : (parts : List MountPart) → find (is_of_mount mount) (attached_in parts) ≡ option_map attached_to (find (is_part_of mount) parts)
  found_attached [] = refl
  found_attached (part ∷ parts) = found_at part parts (is_part_of mount part) (found_attached parts)

  -- so is what is asked of them
  pub found_through : {Y : Type 0} (ask : Option MountAttachments → Y) (parts : List MountPart) (found : Option MountPart)
      → find (is_part_of mount) parts ≡ found → ask (find (is_of_mount mount) (attached_in parts)) ≡ ask (option_map attached_to found)
  found_through ask parts found e = ap ask (found_attached parts) ∙ ap (λ (x : Option MountPart). ask (option_map attached_to x)) e

  module _ (f : MountAttachments → MountAttachments) (shown : (part : MountPart) → attached_to (on_part f part) ≡ f (attached_to part)) where
    pub attachments_shown : (parts : List MountPart) → by_mount_of (update_first (is_part_of mount) (on_part f) parts)
        ≡ with_attached (update_first (is_of_mount mount) f (attached_in parts)) (by_mount_of parts)
    attachments_shown parts =
        both_so _ _ _ _ (sessions_left (is_part_of mount) (on_part f) (λ part. refl) parts)
        (attached_changed (is_part_of mount) (is_of_mount mount) (on_part f) f (λ part. refl) shown parts)

  pub attachments_whole : (f : MountAttachments → MountAttachments) (furthest : ℕ) (parts : List MountPart) → AreWhole furthest parts
      → AreWhole furthest (update_first (is_part_of mount) (on_part f) parts)
  attachments_whole f furthest parts whole = (
    subst (GoNoFurther furthest) (sym (sessions_left (is_part_of mount) (on_part f) (λ part. refl) parts)) whole.0,
    Each_updated (λ (part : MountPart). IsNamed part.mount part.session) (is_part_of mount) (on_part f) (λ part named. named) parts whole.1,
  )

abbrev pub by_name : MountPart → MountPart → Ordering
by_name a b = slice_cmp nat_cmp a.mount b.mount

-- a part that nobody feeds and to which nobody is attached comes
module _ (fresh : MountPart) (silent : fresh.session ≡ None) where
  abbrev by_row : MountAttachments → MountAttachments → Ordering
  by_row a b = slice_cmp nat_cmp a.mount b.mount

  seen_placed_at : (part : MountPart) (parts : List MountPart) (o : Ordering) → attached_in (placed by_name fresh parts) ≡ placed by_row (attached_to fresh) (attached_in parts)
      → attached_in (match_ordering o (fresh ∷ part ∷ parts) (fresh ∷ parts) (part ∷ placed by_name fresh parts))
      ≡ match_ordering o (attached_to fresh ∷ attached_to part ∷ attached_in parts) (attached_to fresh ∷ attached_in parts)
      (attached_to part ∷ placed by_row (attached_to fresh) (attached_in parts))
  seen_placed_at part parts Less later = refl
  seen_placed_at part parts Equal later = refl
  seen_placed_at part parts Greater later = ap (λ rows. attached_to part ∷ rows) later

  pub seen_placed : (parts : List MountPart) → attached_in (placed by_name fresh parts) ≡ placed by_row (attached_to fresh) (attached_in parts)
  seen_placed [] = refl
  seen_placed (part ∷ parts) = seen_placed_at part parts (by_name fresh part) (seen_placed parts)

  pub placed_whole : (furthest : ℕ) (parts : List MountPart) → find (is_part_of fresh.mount) parts ≡ None → AreWhole furthest parts
      → AreWhole furthest (placed by_name fresh parts)
  placed_whole furthest parts none whole = (
    subst (GoNoFurther furthest) (sym (part_added fresh silent parts (passes_none (is_part_of fresh.mount) parts none))) whole.0,
    Each_placed (λ (part : MountPart). IsNamed part.mount part.session) by_name fresh parts (subst (IsNamed fresh.mount) (sym silent) tt) whole.1,
  )

-- or goes
module _ (mount : List ℕ) where
  silent_at : (part : MountPart) (parts : List MountPart) (row : MountPart) (b : Bool) → is_part_of mount part ≡ b → AreRising (part ∷ parts)
      → (find (is_part_of mount) parts ≡ Some row → Each (λ (x : MountPart). is_part_of mount x ≡ true → x.session ≡ None) parts)
      → find (is_part_of mount) (part ∷ parts) ≡ Some row → row.session ≡ None
      → Each (λ (x : MountPart). is_part_of mount x ≡ true → x.session ≡ None) (part ∷ parts)
  silent_at part parts row true is rising later found silent =
      let here : Some part ≡ Some row = sym (find_here (is_part_of mount) part parts is) ∙ found in
      let same : part ≡ row = cc in (
        λ passes. ap (λ (x : MountPart). x.session) same ∙ silent,
        Each_each (λ (x : MountPart). is_part_of mount x ≡ false) (λ (x : MountPart). is_part_of mount x ≡ true → x.session ≡ None)
            (λ x fails passes. let wrong : true ≡ false = sym passes ∙ fails in cc) parts (are_others mount part parts is rising),
      )
  silent_at part parts row false is rising later found silent =
      (λ passes. let wrong : true ≡ false = sym passes ∙ is in cc, later (sym (find_later (is_part_of mount) part parts is) ∙ found))

  pub are_silent : (parts : List MountPart) (row : MountPart) → AreRising parts → find (is_part_of mount) parts ≡ Some row → row.session ≡ None
      → Each (λ (x : MountPart). is_part_of mount x ≡ true → x.session ≡ None) parts
  are_silent [] row rising found silent = cc
  are_silent (part ∷ parts) row rising found silent =
      silent_at part parts row (is_part_of mount part) refl rising (λ behind. are_silent parts row (rest_rises part parts rising) behind silent) found silent

  abbrev pub without_part : List MountPart → List MountPart
  without_part parts = filter (λ part. not (is_part_of mount part)) parts

  seen_without_at : (part : MountPart) (parts : List MountPart) (b : Bool)
      → attached_in (without_part parts) ≡ filter (λ row. not (is_of_mount mount row)) (attached_in parts)
      → attached_in (if b then part ∷ without_part parts else without_part parts)
      ≡ (if b then attached_to part ∷ filter (λ row. not (is_of_mount mount row)) (attached_in parts) else filter (λ row. not (is_of_mount mount row)) (attached_in parts))
  seen_without_at part parts true later = ap (λ rows. attached_to part ∷ rows) later
  seen_without_at part parts false later = later

  pub seen_without : (parts : List MountPart) → attached_in (without_part parts) ≡ filter (λ row. not (is_of_mount mount row)) (attached_in parts)
  seen_without [] = refl
  seen_without (part ∷ parts) = seen_without_at part parts (not (is_part_of mount part)) (seen_without parts)

  pub without_whole : (furthest : ℕ) (parts : List MountPart) → Each (λ (x : MountPart). is_part_of mount x ≡ true → x.session ≡ None) parts → AreWhole furthest parts
      → AreWhole furthest (without_part parts)
  without_whole furthest parts silent whole = (
    subst (GoNoFurther furthest) (sym (part_removed mount parts silent)) whole.0,
    Each_kept (λ (part : MountPart). IsNamed part.mount part.session) (λ (part : MountPart). IsNamed part.mount part.session) (λ part. not (is_part_of mount part))
        (λ part named kept. named) parts whole.1,
  )
