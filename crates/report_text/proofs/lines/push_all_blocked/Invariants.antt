use Rattle.std.proofs.Common.{◌≡◌, ◌++◌, length}
use Rattle.report_text.specs.Report.{blocked_lines}
use Rattle.report_text.proofs.lines.push_all_blocked.Given as goal

abbrev pub invariant-lines : goal.invariant-lines
invariant-lines l = l.out.items ++ blocked_lines l.rest ≡ l.initial.out.items ++ blocked_lines l.blocked

abbrev pub decreases-lines : goal.decreases-lines
decreases-lines l = length l.rest
