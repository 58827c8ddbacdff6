use Rattle.std.proofs.Common.{◌≡◌, ◌+◌, ◌≤◌}
use Rattle.planner.proofs.merging.merge_by.Given as goal
use Rattle.planner.specs.Working.{IsWithin}
use Rattle.planner_state.specs.State.{IsState}
use Rattle.step_laws.specs.Free.{AreAmong}
use Rattle.step_laws.specs.Leading.{Leads}
use Rattle.step_laws.specs.Sizes.{size}

-- the steps so far led here, each by a byte or more
abbrev pub invariant-steps : goal.invariant-steps
invariant-steps g l = record {
  asked : AreAmong (g.O.Obstacles.answers l.fn.obstacles) (g.O.Obstacles.answers l.obstacles);
  same_budget : g.O.Obstacles.budget l.obstacles ≡ g.O.Obstacles.budget l.fn.obstacles;
  state : IsState (g.O.Obstacles.answers l.obstacles) l.source l.plan;
  leads : Leads (g.O.Obstacles.answers l.obstacles) l.source l.taken l.fn.sheet.items l.plan.indexed.items;
  within : IsWithin l.work (g.O.Obstacles.answers l.obstacles) l.source l.taken l.fn.sheet.items;
  room : l.taken + size l.source l.plan.indexed.items ≤ size l.source l.fn.sheet.items;
}

abbrev pub decreases-steps : goal.decreases-steps
decreases-steps g l = size l.source l.plan.indexed.items
