use Rattle.std.proofs.Common.{◌%◌, ◌*◌, ◌-◌}
use Rattle.std.specs.Prelude.{◌==◌}
use Rattle.nth_positions.specs.Gaps.{first_passing}
use Rattle.remainders.proofs.Searching.{found_later, not_nothing}
use Rattle.remainders.proofs.joint.turns.Goals as goal

pub loop-turns-preserved : goal.loop-turns-preserved
loop-turns-preserved c =
    found_later (λ t. (c.args.a * t) % c.args.b == 0) c.loop-turns.turns c.args.b (first_passing (λ t. (c.args.a * t) % c.args.b == 0) 1 (c.args.b - 1)) c.loop-turns-test.true c.loop-turns.invariant
    (not_nothing ((c.args.a * c.loop-turns.turns) % c.args.b) c.if-a-turns-eq0.false)
