use Rattle.std.proofs.Common.{◌≡◌, ◌+◌, ◌*◌, ◌≤◌, length}
use Rattle.cascade_laws.specs.Eval.Climbing.{climbed, standings_of}
use Rattle.line_match.proofs.climbing.climb.Given as goal

abbrev pub invariant-loop-line : goal.invariant-loop-line
invariant-loop-line l = record {
  known :
      climbed l.selector.chain l.selector.links l.left (standings_of l.left l.depth l.number) l.before l.known.items
      ≡ climbed l.selector.chain l.selector.links l.lines (standings_of l.lines 1 l.marked) 0 l.fn.reached.items;
  deep : l.depth + l.number ≤ 1 + l.marked;
  near : l.before + 4294967296 * l.number ≤ 4294967296 * l.marked;
}

abbrev pub decreases-loop-line : goal.decreases-loop-line
decreases-loop-line l = length l.left
