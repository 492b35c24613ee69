use Rattle.radio_serving.proofs.Courses.{open_session_is_whole}
use Rattle.radio_serving.proofs.laws.open_sessions_have_not_failed.Goals as goal

pub returns : goal.returns
returns c = open_session_is_whole c.only_refused_calls_fail.ensures.read
