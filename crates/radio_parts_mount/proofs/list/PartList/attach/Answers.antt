use Rattle.radio_parts_mount.proofs.ListLemmas.{known}
use Rattle.radio_parts_mount.proofs.list.PartList.attach.Goals as goal

pub returns : goal.returns
returns c = λ mount session attachments told.
    c.attach.ensures mount session attachments
    (known mount session attachments c.args.self.now c.in-Some.kept c.has_room.new.self c.in-Some.is c.has_room.ensures.same told)
