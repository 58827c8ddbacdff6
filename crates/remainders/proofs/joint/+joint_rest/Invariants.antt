use Rattle.std.proofs.Common.{length}
use Rattle.remainders.proofs.joint.+joint_rest.Given as goal

abbrev pub decreases-joint_rest : goal.decreases-joint_rest
decreases-joint_rest l = length l.remainders.now
