use Rattle.std.proofs.Common.{◌≡◌, length}
use Rattle.std.specs.List.{AllByRecursion}
use Rattle.planner.specs.Working.{spent_of}
use Rattle.media_groups.specs.Laws.{IsBlockOf}
use Rattle.merge_text.proofs.PlannedBodies.{ArePlannedTo}
use Rattle.merge_text.proofs.bodies.merge_bodies.Given as goal
use Rattle.merge_text.specs.Working.{StaysSpent}
use Rattle.opened_merge_laws.specs.Merged.{IsSpent}
use Rattle.step_laws.specs.Free.{AreAmong}

-- the bodies so far are planned, by the answers that are held so far
abbrev pub invariant-bodies : goal.invariant-bodies
invariant-bodies g l = record {
  asked : AreAmong (g.O.Obstacles.answers l.fn.obstacles) (g.O.Obstacles.answers l.obstacles);
  same_budget : g.O.Obstacles.budget l.obstacles ≡ g.O.Obstacles.budget l.fn.obstacles;
  blocks : AllByRecursion (IsBlockOf l.source) l.rest;
  planned : ArePlannedTo (spent_of l.work l.spent) (g.O.Obstacles.answers l.obstacles) l.source l.media l.rest l.taken l.sheets.items;
  stays : StaysSpent l.work l.fn.spent l.spent;
  enough : IsSpent (spent_of l.work l.spent) (g.O.Obstacles.answers l.obstacles) l.taken;
}

abbrev pub decreases-bodies : goal.decreases-bodies
decreases-bodies g l = length l.rest
