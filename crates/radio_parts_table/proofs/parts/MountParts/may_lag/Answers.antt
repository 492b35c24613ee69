use Rattle.std.proofs.Common.{◌≡◌, ℕ, false, [], Option, Some, None, List, ap, sym, subst, ◌∙◌}
use Rattle.radio_parts_table.proofs.Words.{find, option_copied, option_map, Attachment, lags, AreInOrder, Each, MountPart, ByMount, by_mount_of, attached_to, is_part_of, is_of_mount, attachments_in}
use Rattle.radio_parts_table.proofs.PartAttachments.{found_through}
use Rattle.radio_parts_table.proofs.parts.MountParts.may_lag.Goals as goal
use Rattle.radio_parts_table.proofs.parts.MountParts.may_lag.Goals.{After-may_lag, In-None}

-- the attachments are those of the part that was found
seen : (parts : List MountPart) (now : ByMount) (mount : List ℕ) (found : Option MountPart) → by_mount_of parts ≡ now → find (is_part_of mount) parts ≡ found
    → attachments_in (find (is_of_mount mount) now.attached) ≡ attachments_in (option_map attached_to found)
seen parts now mount found is e =
    ap (λ (x : ByMount). attachments_in (find (is_of_mount mount) x.attached)) (sym is) ∙ found_through mount attachments_in parts found e

some : (c : After-may_lag) → attachments_in (find (is_of_mount c.args.mount.now) c.args.self.now.attached) ≡ c.in-Some.part.now.attachments
some c = seen c.self.inside.parts c.args.self.now c.args.mount.now (Some c.in-Some.part.now) c.self.view_is (sym c.get.ensures ∙ ap option_copied c.in-Some.is)

none : (c : In-None) → attachments_in (find (is_of_mount c.args.mount.now) c.args.self.now.attached) ≡ []
none c = seen c.self.inside.parts c.args.self.now c.args.mount.now None c.self.view_is (sym c.get.ensures ∙ ap option_copied c.in-None.is)

pub returns-in-Some-clause-none : goal.returns-in-Some-clause-none
returns-in-Some-clause-none c = λ e. subst (λ (rows : List Attachment). Each (λ row. lags c.args.end c.args.queue row ≡ false) rows) (sym (some c)) (c.may_lag.ensures.none e)

pub returns-in-Some-clause-once : goal.returns-in-Some-clause-once
returns-in-Some-clause-once c = subst AreInOrder (sym (some c)) c.may_lag.ensures.once

pub returns-in-None-clause-none : goal.returns-in-None-clause-none
returns-in-None-clause-none c = λ e. subst (λ (rows : List Attachment). Each (λ row. lags c.args.end c.args.queue row ≡ false) rows) (sym (none c)) tt

pub returns-in-None-clause-once : goal.returns-in-None-clause-once
returns-in-None-clause-once c = subst AreInOrder (sym (none c)) tt
