use Rattle.std.proofs.Common.{◌≡◌, ◌+◌, ◌*◌, ◌≤◌, length}
use Rattle.cascade_laws.specs.Eval.Climbing.{count_at}
use Rattle.line_match.proofs.counts.count_at.Given as goal

abbrev pub invariant-loop-line : goal.invariant-loop-line
invariant-loop-line l = record {
  value : l.count + count_at l.left l.depth ≡ count_at l.lines l.depth;
  small : l.count + 4294967296 * length l.left ≤ 4294967296 * length l.lines;
}

abbrev pub decreases-loop-line : goal.decreases-loop-line
decreases-loop-line l = length l.left
