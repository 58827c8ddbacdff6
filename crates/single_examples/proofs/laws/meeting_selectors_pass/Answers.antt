use Rattle.single_examples.proofs.Meeting as meeting
use Rattle.single_examples.proofs.laws.meeting_selectors_pass.Goals as goal

pub returns : goal.returns
returns c = meeting.meeting_passes c.selectors_that_meet_have_a_shape.ensures
