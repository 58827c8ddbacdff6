use Rattle.single_examples.proofs.Showing as showing
use Rattle.single_examples.proofs.laws.examples_show_meeting.Goals as goal

pub returns : goal.returns
returns c = showing.examples_show_meeting c.shapes_show_meeting.ensures
