use Rattle.std.proofs.Common.{◌-◌, arith}
use Rattle.line_match.specs.Runs.{run_tests}
use Rattle.line_match.proofs.Passed.{passed_first}
use Rattle.line_match.proofs.passing.behind_each.Goals as goal

pub loop-left-preserved : goal.loop-left-preserved
loop-left-preserved c =
    let first = passed_first (run_tests c.args.run.now.selector.now.chain c.args.run.now.element.now c.args.run.now.has_children) c.args.run.now.selector.now.links
    c.loop-left.left (c.loop-left.left - 1) c.loop-left.at c.args.behind c.loop-left.seen.items (omega arith) in
    record {
      known = cc (first, c.in_ok-seen-2.ensures, c.from.ensures, c.as_slice.ensures.value, c.loop-left.invariant.known);
      counted = omega arith;
      within = omega arith;
    }
