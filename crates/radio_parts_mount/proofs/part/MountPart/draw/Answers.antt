use Rattle.std.proofs.Common.{◌≡◌, ℕ, Option, List, Result, ap, subst}
use Rattle.radio_parts_mount.proofs.Words.{AllocError, Attachment, Session, Portion, MountPart, IsDrawn}
use Rattle.radio_parts_mount.proofs.DrawingLemmas.{has_drawn, was_refused, is_absent}
use Rattle.radio_parts_mount.specs.contracts.drawing.DrawsPlaceVisit.TheImpl.{visits-value as visits}
use Rattle.radio_parts_mount.proofs.part.MountPart.draw.Goals as goal

-- the session that the visit has is the mount's
drawn : (room : ℕ) (lent session : Option Session) → lent ≡ session → (before handed : Portion) (answer : Result (Unit {0}) AllocError) (place after : ℕ) (a : Unit {0})
    → IsDrawn lent room place before answer handed after → IsDrawn session room place before answer handed after
drawn room lent session is before handed answer place after a h = subst (λ (its : Option Session). IsDrawn its room place before answer handed after) is h

abbrev with_rows : MountPart → List Attachment → MountPart
with_rows part rows = record part { attachments = rows }

pub returns-in-Ok-clause-ok : goal.returns-in-Ok-clause-ok
returns-in-Ok-clause-ok c = λ kept.
    let p = c.args.self.now in
    ap (with_rows p)
    (has_drawn visits.it _ c.visit.new.visitor c.args.id p.attachments c.visit.new.self c.visit.result c.visit.ensures p.session c.args.room _ _ _
    (drawn c.args.room _ p.session c.as_ref.ensures.value _ _ _) _ _ c.in-Some.is c.in-Ok.is kept)

pub returns-in-Err-clause-err : goal.returns-in-Err-clause-err
returns-in-Err-clause-err c =
    let p = c.args.self.now in
    ap (with_rows p)
    (was_refused visits.it _ c.visit.new.visitor c.args.id p.attachments c.visit.new.self c.visit.result c.visit.ensures p.session c.args.room _ _ _
    (drawn c.args.room _ p.session c.as_ref.ensures.value _ _ _) _ c.in-Err.refused c.in-Some.is c.in-Err.is)

pub returns-in-None-clause-ok : goal.returns-in-None-clause-ok
returns-in-None-clause-ok c = λ kept.
    let p = c.args.self.now in
    ap (with_rows p)
    (is_absent visits.it _ c.visit.new.visitor c.args.id p.attachments c.visit.new.self c.visit.result c.visit.ensures p.session c.args.room _ _ _
    (drawn c.args.room _ p.session c.as_ref.ensures.value _ _ _) c.in-None.is)
