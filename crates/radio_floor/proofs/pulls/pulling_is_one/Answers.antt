use Rattle.radio_floor.proofs.OneCourse.{asking_is_one, going_down_is_one, taking_is_one}
use Rattle.radio_floor.proofs.pulls.pulling_is_one.Goals as goal

pub returns : goal.returns
returns c = record { takes = taking_is_one c.cuts_do_not_matter.ensures.one; asks = asking_is_one; goes = going_down_is_one }
