use Rattle.remainders.proofs.Joining.{joint_left}
use Rattle.remainders.proofs.leaving.joint_rests_are_left.Goals as goal

pub returns : goal.returns
returns c = joint_left
