use Rattle.std.proofs.Common.{◌≡◌, ◌++◌, map, length}
use Rattle.cascade_laws.specs.Eval.Reaching.{from_root}
use Rattle.line_match.proofs.reaching.at_root.Given as goal

abbrev pub invariant-loop-left : goal.invariant-loop-left
invariant-loop-left l = l.reached.items ++ map (λ c. from_root) l.left ≡ map (λ c. from_root) l.chain

abbrev pub decreases-loop-left : goal.decreases-loop-left
decreases-loop-left l = length l.left
