use Rattle.std.proofs.Common.{◌≡◌, take}
use Rattle.step_obstacles.specs.Asking.{Stays}
use Rattle.step_obstacles.proofs.searching.of_selectors.Given as goal
use Rattle.step_obstacles.specs.Among.{Among}
use Rattle.step_obstacles.specs.Blocked.{AllPass}
use Rattle.step_obstacles.specs.Known.{FacedStands, IsKnown}
use Rattle.step_obstacles.specs.Turns.{hindrance_of, pair_of}

-- the first ones let the step pass
abbrev pub invariant-loop-number : goal.invariant-loop-number
invariant-loop-number l = record {
  stays : Stays l.fn.pairs l.pairs;
  known : IsKnown l.window l.known;
  faced : FacedStands l.window l.facing l.of_facing;
  pass : AllPass l.pairs.answers l.window (Among (take l.number l.moved.at.rule.now.selectors) (λ x by. by ≡ hindrance_of l.window.items.now l.facing (pair_of x l.moved.at.decl.now)));
}
