use Rattle.std.proofs.Common.{◌≡◌, ◌+◌, ◌≤◌}
use Rattle.cascade_laws.specs.Eval.Reaching.{passed}
use Rattle.line_match.specs.Runs.{run_tests}
use Rattle.line_match.proofs.passing.behind_each.Given as goal

abbrev pub invariant-loop-left : goal.invariant-loop-left
invariant-loop-left l = record {
  known :
      passed (run_tests l.run.selector.now.chain l.run.element.now l.run.has_children) l.run.selector.now.links l.left l.at l.behind l.seen.items
      ≡ passed (run_tests l.run.selector.now.chain l.run.element.now l.run.has_children) l.run.selector.now.links l.count l.before l.behind l.reached;
  counted : l.at + l.left ≡ l.before + l.count;
  within : l.left ≤ l.count;
}

abbrev pub decreases-loop-left : goal.decreases-loop-left
decreases-loop-left l = l.left
