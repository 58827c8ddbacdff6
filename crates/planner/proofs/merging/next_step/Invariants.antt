use Rattle.std.proofs.Common.{◌≡◌}
use Rattle.planner.proofs.merging.next_step.Given as goal
use Rattle.step_queue.specs.Weights.{total}
use Rattle.planner_state.specs.State.{IsState}
use Rattle.step_laws.specs.Free.{AreAmong}

-- the candidates so far are passed
abbrev pub invariant-candidates : goal.invariant-candidates
invariant-candidates g l = record {
  asked : AreAmong (g.O.Obstacles.answers l.fn.obstacles) (g.O.Obstacles.answers l.obstacles);
  same_budget : g.O.Obstacles.budget l.obstacles ≡ g.O.Obstacles.budget l.fn.obstacles;
  indexed : l.plan.indexed ≡ l.fn.plan.indexed;
  state : IsState (g.O.Obstacles.answers l.obstacles) l.source l.plan;
}

abbrev pub decreases-candidates : goal.decreases-candidates
decreases-candidates g l = total l.plan.candidates
