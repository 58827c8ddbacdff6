use Rattle.std.proofs.Common.{sym, ◌∙◌}
use Rattle.nth_positions.specs.Gaps.{first_passing}
use Rattle.remainders.proofs.Searching.{found_later}
use Rattle.remainders.proofs.joint.first_meeting.Goals as goal
use Rattle.remainders.specs.Remainders.{meets}

pub loop-k-preserved : goal.loop-k-preserved
loop-k-preserved c =
    found_later (meets c.args.left c.args.step c.args.next) c.loop-k.k c.args.next.step (first_passing (meets c.args.left c.args.step c.args.next) 0 c.args.next.step) c.loop-k-test.true c.loop-k.invariant
    (sym c.meets.ensures ∙ c.if-meets.false)
