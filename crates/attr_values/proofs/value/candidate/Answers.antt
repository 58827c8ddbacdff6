use Rattle.attr_values.proofs.Ends.{copy_tried}
use Rattle.attr_values.proofs.value.candidate.Goals as goal

pub returns-in-Some : goal.returns-in-Some
returns-in-Some c = copy_tried c.args.tests.now c.in-Some.v.now c.copy.result c.requires c.in-Some.ensures c.copy.ensures
