use Rattle.std.proofs.Common.{take}
use Rattle.step_obstacles.specs.Asking.{Stays}
use Rattle.step_obstacles.proofs.searching.with_rule.Given as goal
use Rattle.step_obstacles.specs.Among.{Among}
use Rattle.step_obstacles.specs.Blocked.{AllPass}
use Rattle.step_obstacles.specs.Known.{IsKnown}
use Rattle.step_obstacles.specs.Turns.{OfOther}

-- the first ones let the step pass
abbrev pub invariant-loop-number : goal.invariant-loop-number
invariant-loop-number l = record {
  stays : Stays l.fn.pairs l.pairs;
  known : IsKnown l.window l.known;
  pass : AllPass l.pairs.answers l.window (Among (take l.number l.met.rule.now.decls) (λ g by. OfOther l.moved.at.rule.now l.moved.at.decl.now l.met.rule.now g.decl by));
}
