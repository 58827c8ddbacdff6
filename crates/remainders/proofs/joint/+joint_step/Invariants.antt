use Rattle.std.proofs.Common.{length}
use Rattle.remainders.proofs.joint.+joint_step.Given as goal

abbrev pub decreases-joint_step : goal.decreases-joint_step
decreases-joint_step l = length l.remainders.now
