use Rattle.std.proofs.Common.{◌-◌, ◌≡◌}
use Rattle.nth_positions.specs.Gaps.{first_passing}
use Rattle.remainders.proofs.joint.first_meeting.Given as goal
use Rattle.remainders.specs.Remainders.{meets}

abbrev pub invariant-loop-k : goal.invariant-loop-k
invariant-loop-k l = first_passing (meets l.left l.step l.next) l.k (l.next.step - l.k) ≡ first_passing (meets l.left l.step l.next) 0 l.next.step
