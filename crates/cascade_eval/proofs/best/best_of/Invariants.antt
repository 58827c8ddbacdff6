use Rattle.std.proofs.Common.{◌≡◌, ◌≤◌, drop, length}
use Rattle.std.specs.List.{filter}
use Rattle.css_model.specs.Cascade.Winner.{greatest}
use Rattle.css_model.specs.Lists.{same_text}
use Rattle.cascade_eval.proofs.best.best_of.Given as goal

abbrev pub invariant-loop-left : goal.invariant-loop-left
invariant-loop-left l = record {
  best : l.best ≡ greatest (filter (λ e. same_text e.decl.name l.name) (drop l.left l.entries));
  within : l.left ≤ length l.entries;
}

abbrev pub decreases-loop-left : goal.decreases-loop-left
decreases-loop-left l = l.left
