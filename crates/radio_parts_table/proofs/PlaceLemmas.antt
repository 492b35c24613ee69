-- the place of a listener is that of its mount's part
use Rattle.std.proofs.Common.{◌≡◌, ℕ, Option, List, ap, sym, ◌∙◌}
use Rattle.radio_parts_table.proofs.Words.{find, option_map, MountPart, ByMount, by_mount_of, MountAttachments, attached_to, is_part_of, found_in, places_in, place_in}
use Rattle.radio_parts_table.proofs.PartAttachments.{found_through}

pub place_seen : (parts : List MountPart) (now : ByMount) (mount : List ℕ) (id : ℕ) (found : Option MountPart) → by_mount_of parts ≡ now
    → find (is_part_of mount) parts ≡ found → places_in now.attached mount id ≡ place_in (found_in id (option_map attached_to found))
place_seen parts now mount id found is e =
    ap (λ (x : ByMount). places_in x.attached mount id) (sym is) ∙ found_through mount (λ (x : Option MountAttachments). place_in (found_in id x)) parts found e
