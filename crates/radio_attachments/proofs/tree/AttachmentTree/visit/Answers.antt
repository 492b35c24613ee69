use Rattle.radio_attachments.proofs.Bounds.{visited_bound}
use Rattle.radio_attachments.proofs.tree.AttachmentTree.visit.Goals as goal

pub invariant_of-self : goal.invariant_of-self
invariant_of-self g c =
    visited_bound g.V.PlaceVisit.visits g.met.V.PlaceVisit.goes_on c.self.inside.least c.args.id c.args.visitor.now c.visit.new.visitor c.self.inside.root
    c.visit.new.self c.visit.result c.visit.ensures c.self.invariant
